use Rattle.std.proofs.Common.{rules, ◌≡◌, ◌<◌, ◌≤◌, ◌+◌, ◌*◌, arith, ℕ, length, get_or, refl, subst}
use Rattle.ring_words.specs.Rule.{opening_word}
use Rattle.ring_words.proofs.Opens.{starts}
use Rattle.ring_words.proofs.rings.Rings.open_behind.Goals as goal

pub new-requires : goal.new-requires
new-requires g c = let bound = c.if-not-is_ring_size.ensures.bounds refl in
    let lo : 2 ≤ g.row.N = bound.0 in
    let words = c.in-Ok.ensures in
    let gates = c.requires.gateways in
    let wide : length c.in-Ok.words.items ≡ 128 + 64 * g.row.N + 128 * g.row.M = search rules in
    rw c.as_slice.ensures.value (starts
    (record {
      rows = g.row.N;
      output_rows = g.row.M;
      gateways = g.row.G;
      logic = c.args.logic;
      base = c.args.past.entries;
      base_outputs = c.args.given;
      reads = g.L.Logic.reads;
      outputs = g.L.Logic.outputs;
      text = g.L.Logic.text;
      nothing = g.L.Logic.nothing c.args.logic;
      grows = g.L.Logic.grows c.args.logic;
    })
    c.in-Ok-blank_boxes.boxes.items c.in-Ok.words.items (omega arith) (omega arith) gates.0 gates.1 c.requires.given
    (search rules) (search rules) wide
    (λ k within. subst (λ (b : ℕ). get_or c.in-Ok.words.items k 0 ≡ opening_word b c.args.given k) c.requires.long.0
    (words.words k (subst (λ (y : ℕ). k < y) wide within))))
