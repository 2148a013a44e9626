-- Each exit says why no message begins, that more has to come, or that one stands there.
use Rattle.std.proofs.Common.{◌∙◌, drop, refl, ap, sym, subst, arith}
use Rattle.fix_frame.specs.Cuts.{EndsInSoh}
use Rattle.edge_frames.specs.Fields.{ended, are_fields}
use Rattle.edge_frames.proofs.BeginLemmas.{too_long, bad_fields, opens, not_closed, not_summed, stands, front_part}
use Rattle.edge_frames.proofs.BeginLemmas.{head_short, body_short}
use Rattle.edge_frames.proofs.begin.begin_body.Goals as goal
use Rattle.edge_frames.proofs.begin.begin_body.Goals.{then-not-ends_in_soh-via-then-not-ends_in_soh}
use Rattle.edge_frames.proofs.begin.begin_body.Goals.{}
use Rattle.edge_frames.proofs.begin.begin_body.Goals.{then-not-ends_in_soh-via-else-not-ends_in_soh+then-not-is_summed}

pub overflow_add-size : goal.overflow_add-size
overflow_add-size c =
    omega (
      arith,
      head_short c.args.longest c.args.bytes.now c.args.at c.args.n c.requires,
      body_short c.args.longest c.args.bytes.now c.args.at c.args.n c.requires,
    )

pub overflow_add-size-2 : goal.overflow_add-size-2
overflow_add-size-2 c =
    omega (
      arith,
      head_short c.args.longest c.args.bytes.now c.args.at c.args.n c.requires,
      body_short c.args.longest c.args.bytes.now c.args.at c.args.n c.requires,
    )

pub returns-then-longest-size : goal.returns-then-longest-size
returns-then-longest-size c =
    too_long c.args.longest c.args.bytes.now c.args.at c.args.n c.requires c.if-longest-size.true

pub returns-then-not-are_fields : goal.returns-then-not-are_fields
returns-then-not-are_fields c =
    let part = front_part c.args.n c.min.result c.split_at.result.1.now (drop c.args.at c.args.bytes.now) c.min.ensures
    c.split_at.ensures.back in
    bad_fields c.args.longest c.args.bytes.now c.args.at c.args.n c.requires
    (ap (λ k. are_fields (ended k)) (sym part) ∙ sym c.if-not-are_fields.ensures)

pub returns-then-bytes-size : goal.returns-then-bytes-size
returns-then-bytes-size c =
    let part = front_part c.args.n c.min.result c.split_at.result.1.now (drop c.args.at c.args.bytes.now) c.min.ensures
    c.split_at.ensures.back in
    opens c.args.longest c.args.bytes.now c.args.at c.args.n c.requires c.if-longest-size.false
    (ap (λ k. are_fields (ended k)) (sym part) ∙ sym c.if-not-are_fields.ensures) c.if-bytes-size.true

pub is_summed-requires : goal.is_summed-requires
is_summed-requires c =
    omega (
      arith,
      c.split_at-2.ensures.front_len,
      head_short c.args.longest c.args.bytes.now c.args.at c.args.n c.requires,
      body_short c.args.longest c.args.bytes.now c.args.at c.args.n c.requires,
    )

pub returns-then-not-ends_in_soh : goal.returns-then-not-ends_in_soh
returns-then-not-ends_in_soh c =
    let part = front_part c.args.n c.min.result c.split_at.result.1.now (drop c.args.at c.args.bytes.now) c.min.ensures
    c.split_at.ensures.back in
    elim c.then-not-ends_in_soh.branch [
      | then-not-ends_in_soh-via-then-not-ends_in_soh w ↦
          not_closed c.args.longest c.args.bytes.now c.args.at c.args.n c.requires c.if-bytes-size.false
          (λ ends. let odd = w.if-not-ends_in_soh.ensures.1 (subst EndsInSoh (sym part) ends) in absurd (cc))
      | then-not-ends_in_soh-via-else-not-ends_in_soh+then-not-is_summed w ↦
          let due = rw (c.split_at-2.ensures.front, c.split_at-2.ensures.back) at w.if-not-is_summed.ensures in
          not_summed c.args.longest c.args.bytes.now c.args.at c.args.n c.requires c.if-bytes-size.false
          (λ sum. let odd = due.1 sum in absurd (cc))
    ]

pub returns : goal.returns
returns c =
    let part = front_part c.args.n c.min.result c.split_at.result.1.now (drop c.args.at c.args.bytes.now) c.min.ensures
    c.split_at.ensures.back in
    let due = rw (c.split_at-2.ensures.front, c.split_at-2.ensures.back) at c.if-not-is_summed.ensures in
    stands c.args.longest c.args.bytes.now c.args.at c.args.n c.requires c.if-bytes-size.false c.if-longest-size.false
    (ap (λ k. are_fields (ended k)) (sym part) ∙ sym c.if-not-are_fields.ensures)
    (subst EndsInSoh part (c.if-not-ends_in_soh.ensures.0 refl)) (due.0 refl)
