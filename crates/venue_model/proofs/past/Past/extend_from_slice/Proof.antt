-- The borrow is opened, and closed at the longer history; nothing is read.
use Rattle.std.proofs.Common.{List, [], ◌∷◌, ◌++◌, refl}
use Rattle.std.proofs.raw_atomic.Walks.{proved}
use base.Fml.{ftrue, flft}
use base.Logic.{id⊢}
use mir.Syntax.{named}
use mir.Val.{Val, vunit}
use types.Kit.{‵, ◌⊛◌, ◌$◌, ◌∵◌, !, qed, move, keep, drop, use1, split, join, fsplit, fsplit3, fjoin, fjoin3, feq_i, suffices, frame, done}
use types.Run.{unit_lit, of_opd, returns, enter}
use types.ByLocal.{alloc_all, pass_all, free_all, look_at, sets}
use denote.Exit.{yes}
use denote.RattleType.{owns}
use denote.Ref.{MutRef, mut_vals, mut_Tells}
use denote.Signature.{plain}
use denote.Slice.{ShrSlice, shr_slice_vals, shr_slice_Tells}
use denote.Steps.{opens, closes}
use denote.Triple.Walked.{says, Stays, stay_ref, stay_none_slice, Goes-ref, Goes-none_slice, ends_at}
use Rattle.venue_model.specs.declared.past.Past.{Past}
use Rattle.venue_model.specs.contracts.past.Past.{the_row as R}
use Rattle.venue_model.specs.contracts.entries.Entry.{the_row as E}
use Rattle.venue_model.specs.contracts.past.Past.extend_from_slice as f
use Rattle.venue_model.proofs.past.Past.extend_from_slice.Statement.{statement}
use Rattle.venue_model.proofs.past.Past.extend_from_slice.Code as code

abbrev stayed : Stays f.ended.signature.params f.ended.kept
stayed = (stay_ref (0 ∷ []) tt (plain (λ _. R)), (stay_none_slice (1 ∷ []) tt (plain (λ _. E)) yes, tt))

pub extend_from_slice_spec : {M : Type 1} → statement M
extend_from_slice_spec 𝓤 𝓛 𝓜 𝓡 wired =
    let c = f.clauses 𝓛 𝓜.mem 𝓡.returns in
    proved 𝓛 f.ended stayed c 𝓜 𝓡
    (Goes-ref 𝓛 2 0 tt (plain (λ _. R)), (Goes-none_slice 𝓛 2 (1 ∷ []) tt (plain (λ _. E)) yes, tt))
    f.Key.name code.function (code.unfolded 𝓤 𝓛.H 𝓜 𝓡 wired)
    (λ κs. (mut_vals, (shr_slice_vals, tt)))
    (λ κs. (mut_Tells (named 0) κs.0 R, (shr_slice_Tells (named 1) κs.1.0 E, tt))) (λ κs qs bounds a none are.
    let b = a.0.ref_ptr.0 in let o = a.0.ref_ptr.1 in
    let at : List Val × (List Val × Unit {0}) = (mut_vals a.0, (shr_slice_vals a.1.0, tt)) in
    let longer : Past = record { entries = a.0.now.entries ++ a.1.0.now } in
    qed 𝓛 (((‵ (flft κs.0 qs.0) ⊛ (‵ (flft κs.1.0 qs.1.0) ⊛ ‵ ftrue))
    ⊛ ‵ (owns (MutRef (named 0) κs.0 R ∷ ShrSlice (named 1) κs.1.0 E ∷ []) a at)) ∷ ‵ ftrue ∷ []) ∵
    keep ! (0 ∷ []) $ split ! $ split ! $ move ! (2 ∷ []) $ fsplit ! $ fsplit3 ! $ drop ! $ move ! (0 ∷ 1 ∷ 3 ∷ []) $
    enter ! _ _ _ _ _ $
    alloc_all ! (λ l. pass_all ! refl ((tt, tt), ((tt, (tt, (record { fits = are.1.0.0.1.0 }, tt))), tt)) $
    opens ! tt R {h = a.0.now} b o (λ vs.
    sets ! (of_opd ! (unit_lit !)) refl (tt, tt) $
    move ! (1 ∷ []) $ use1 𝓛 (‵ (R.own_val longer vs)) (id⊢ 𝓤 _) $ move ! (1 ∷ 0 ∷ []) $ closes ! tt R longer vs b o $
    returns ! (look_at ! 0 refl) $ free_all ! refl $ keep ! (0 ∷ 1 ∷ 2 ∷ 3 ∷ 4 ∷ []) $
    -- [two parts of self; its token; the slice; the slice's token]
    suffices ! _ (ends_at 𝓛 f.ended stayed c ((κs, qs, bounds, a, at), none) vunit tt (longer, (tt, tt)) (tt, (tt, tt))) $
    says ! refl $ move ! (2 ∷ 4 ∷ []) $ join ! $ frame ! $
    feq_i ! (List Val) (mut_vals a.0) (mut_vals a.0) refl $ fjoin3 ! $ fjoin ! $
    feq_i ! (List Val) (vunit ∷ []) (vunit ∷ []) refl $ move ! (1 ∷ 0 ∷ []) $ done !)))
