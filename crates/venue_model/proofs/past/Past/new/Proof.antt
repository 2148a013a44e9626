-- The struct has no bytes, and no entries are set.
use Rattle.std.proofs.Common.{[], ◌∷◌, refl}
use Rattle.std.proofs.raw_atomic.Walks.{proved}
use base.Fml.{ftrue}
use mir.Val.{vstruct, vnil}
use types.Kit.{‵, raw, ◌⊛◌, ◌$◌, ◌∵◌, !, qed, move, keep, split, suffices, done}
use types.Run.{no_more, returns, enter}
use types.Part.{agg}
use types.ByLocal.{alloc_all, pass_all, free_all, look_at, sets}
use denote.RattleType.{owns}
use denote.Shadow.{pure_i}
use denote.Triple.Entry.{alive}
use denote.Triple.Walked.{says, Stays, ends_at}
use Rattle.venue_model.specs.declared.past.Past.{Past}
use Rattle.venue_model.specs.contracts.past.Past.{the_row}
use Rattle.venue_model.specs.contracts.past.Past.new as f
use Rattle.venue_model.proofs.past.Past.new.Statement.{statement}
use Rattle.venue_model.proofs.past.Past.new.Code as code

abbrev stayed : Stays f.ended.signature.params f.ended.kept
stayed = tt

abbrev empty : Past
empty = record { entries = [] }

pub new_spec : {M : Type 1} → statement M
new_spec 𝓤 𝓛 𝓜 𝓡 wired =
    let c = f.clauses 𝓛 𝓜.mem 𝓡.returns in
    proved 𝓛 f.ended stayed c 𝓜 𝓡 tt f.Key.name code.function (code.unfolded 𝓤 𝓛.H 𝓜 𝓡 wired)
    (λ κs. tt) (λ κs. tt) (λ κs qs bounds a none are.
    qed 𝓛 ((raw (alive 𝓛 f.signature κs qs) ⊛ ‵ (owns [] a tt)) ∷ ‵ ftrue ∷ []) ∵ split ! $ keep ! (0 ∷ 1 ∷ []) $
    enter ! _ _ _ _ _ $ alloc_all ! (λ l. pass_all ! refl tt $
    sets ! (agg ! (no_more !)) refl (tt, tt) $
    returns ! (look_at ! 0 refl) $ free_all ! refl $
    suffices ! _ (ends_at 𝓛 f.ended stayed c ((κs, qs, bounds, a, tt), none) (vstruct vnil) empty tt tt) $ says ! refl $
    pure_i ! (the_row.own_val empty (vstruct vnil ∷ [])) ((λ vss. (tt, tt)), tt) ((tt, (refl, tt)), tt) $
    move ! (1 ∷ 2 ∷ 0 ∷ []) $ done !))
