-- A flush goes on: what went out before, and a front of what is left.
use Rattle.std.proofs.Common.{◌≡◌, ℕ, List, ◌++◌, take, drop, append_assoc, take-append-drop}
use Rattle.wires.specs.Wires.{Told, grown}
use Rattle.wires.specs.WireLaws.{grown-append}

pub flushed-more : (buffer put left written after : List ℕ) (n : ℕ) (old mid new : Told) →
    buffer ≡ put ++ left → mid ≡ record old { took = grown old.took put } → written ≡ left →
    new ≡ record mid { took = grown mid.took (take n written) } → after ≡ drop n left →
    (x : List ℕ) × (buffer ≡ x ++ after) × (new ≡ record old { took = grown old.took x })
flushed-more buffer put left written after n old mid new split so_far same more rest = (
  put ++ take n left,
  rw (split, rest, append_assoc, take-append-drop),
  rw (more, so_far, same, grown-append),
)
