-- What a frame's header decides, or that there is no right one.
use Rattle.std.proofs.Common.{◌≡◌, ℕ, List, Option, ap}
use Rattle.fix_frame.specs.Grammar.{Field}
use Rattle.fix_orders.specs.Header.{Header, header_of}
use Rattle.gateway.specs.Verdict.{verdict, verdict_by}
use Rattle.gateway.specs.Answers.{time_after, time_by}

pub verdict_is : (gateway accepted : ℕ) (fields : List Field) (h : Option Header) → header_of fields ≡ h →
    verdict gateway accepted fields ≡ verdict_by gateway accepted h
unfolding verdict
verdict_is gateway accepted fields h is = ap (verdict_by gateway accepted) is

pub time_is : (last : List ℕ) (fields : List Field) (h : Option Header) → header_of fields ≡ h
    → time_after last fields ≡ time_by last h
unfolding time_after
time_is last fields h is = ap (time_by last) is
