-- A device on which a journal lies.
use Rattle.std.specs.Prelude.{ℕ}
use Rattle.disks.specs.Disk.{Told}

-- what a device is: whether it is honest, what it tells then, and how many of its calls failed
pub record Device (D : Type 0) : Type 1 where
  pub honest : D → Type 0
  pub tells : D → Told
  pub failed : D → ℕ

abbrev pub device : {D : Type 0} → (D → Type 0) → (D → Told) → (D → ℕ) → Device D
device honest tells failed = record { honest = honest; tells = tells; failed = failed }
