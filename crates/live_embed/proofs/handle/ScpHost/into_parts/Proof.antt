-- `into_parts` tests the pointer: a handle in use gives up what it owns, and another owns nothing.
use Rattle.std.proofs.Common.{List, [], ◌∷◌, ◌++◌, refl, sym, subst, lit<, None, Some}
use seplogic.Ra.Ura.{Ura}
use mir.Val.{Val, vptr, vcons, vnil}
use base.Logic.{SProp, ent, emp, id⊢}
use base.Fml.{ftrue, fsep}
use prog.Memory.{Memory}
use prog.Routine.{Routine}
use prog.Wp.{WpFn, Tables}
use types.Logic.{Logic}
use contract.Monad.{Fun}
use contract.Running.{tables, tables_of}
use sound.WpLaws.{WpFn-mono}
use types.Kit.{Item, at_ret, ‵, raw, ◌⊛◌, ◌$◌, ◌∵◌, !, qed, by, move, drop, use0, use1, join, split, fsplit, fjoin, suffices, done}
use types.Part.{whole, sub, agg}
use types.Run.{stop, fld, lit, bin, no_more, and_then, of_opd, first, branches, exec, returns, enter}
use types.ByLocal.{alloc_all, pass_all, free_all, look_at, get, get_in, sets, sets_last, env}
use types.Match.{live}
use denote.Exit.{yes}
use denote.RattleType.{RattleType}
use denote.RawPtr.{block_ptr, null_ptr, ptr_val, tests_null}
use denote.Param.{layout}
use denote.Signature.{type_at}
use denote.Steps.{nothing}
use denote.Triple.Spec.{triple_of}
use denote.Triple.Table.{entered}
use denote.Triple.Walked.{says, Stays, stay_dropped, walk_of, ends_at, Goes-dropped, walk_Meets}
use Rattle.std.proofs.alloc.Shapes.{after}
use Rattle.std.proofs.cell.Inside.{Good}
use Rattle.std.proofs.option.Made.{Some-of, none_of}
use Rattle.std.proofs.BoxSteps.Form.{D, box_typed}
use Rattle.std.proofs.BoxSteps.Steps.{box_in}
use Rattle.std.proofs.ResultValues.{and_tt}
use Rattle.live_embed.specs.contracts.embedded.Embedded as Embedded
use Rattle.std.specs.contracts.alloc.Global as Heap
use Rattle.std.specs.contracts.impls.GlobalAllocator.TheImpl.{ghosts}
use Rattle.live_embed.specs.contracts.parts.Parts as Parts
use Rattle.live_embed.proofs.AsBox.{E, FromHandle as From}
use Rattle.live_embed.proofs.Handles.{both, host_out}
use Rattle.live_embed.specs.contracts.handle.ScpHost.into_parts as F
use Rattle.live_embed.specs.contracts.handle.ScpHost.into_parts.Key.{name as #self}
use Rattle.live_embed.proofs.handle.ScpHost.into_parts.Statement as stated
use Rattle.live_embed.proofs.handle.ScpHost.into_parts.Code as code

abbrev stayed : Stays (F.ended).signature.params (F.ended).kept
stayed = (stay_dropped From yes, tt)

abbrev Lr : RattleType
Lr = Parts.the_row Embedded.the_row Heap.the_row ghosts

module _ {M : Type 1} {𝓤 : Ura M} (𝓛 : Logic 𝓤) (at_mem : Memory → SProp 𝓤) (run : Routine → Fun 𝓤) (𝓣 : Tables 𝓤 𝓛.H) where
  open 𝓛 use {H}

  walk : (z : (walk_of 𝓛 F.ended stayed (F.clauses 𝓛 at_mem run)).Ghost)
      → ent 𝓤 ((walk_of 𝓛 F.ended stayed (F.clauses 𝓛 at_mem run)).pre z) (WpFn 𝓤 H 𝓣.C 𝓣.Λ code.function (z.0.4.0 ++ []) ((walk_of 𝓛 F.ended stayed (F.clauses 𝓛 at_mem run)).post z))
  walk z =
      let Post = (walk_of 𝓛 F.ended stayed (F.clauses 𝓛 at_mem run)).post z in
      let v = z.0.3.0 in
      let fn = code.function in
      let Out = type_at (F.signature).result tt in
      qed 𝓛 ((‵ ftrue ⊛ ‵ (fsep (((type_at From tt)).own_val v z.0.4.0) ftrue)) ∷ raw (emp 𝓤) ∷ []) ∵ split ! $ drop ! $ fsplit ! $
      host_out ! v z.0.4.0
      (λ h _ gone ws gh. move ! (1 ∷ 2 ∷ 0 ∷ []) $ drop ! $ drop ! $ drop ! $
      let w = both (ptr_val null_ptr) h in
      by ! (subst (λ (us : List Val). ent 𝓤 (types.Kit.⋆ 𝓛 []) (WpFn 𝓤 H 𝓣.C 𝓣.Λ fn (us ++ []) Post)) (sym ws)
      (qed 𝓛 [] ∵ enter ! 𝓣.C 𝓣.Λ fn (w ∷ []) _ $ alloc_all ! (λ ls. pass_all ! refl ((and_tt _ gh.0, (record { fits = lit< tt }, (gh.1, tt))), tt) $ let Ev = env fn.locals ls in
      sets ! (of_opd ! (get_in ! (fld ! refl (stop !)) (sub ! 0 refl (whole !)))) refl (tt, record { fits = lit< tt }) $ sets ! (of_opd ! (get_in ! (fld ! refl (stop !)) (sub ! 1 refl (whole !)))) refl gh $
      sets ! (bin ! (get ! refl) (lit ! tt) tt) refl (tt, tt) $ first ! $ branches ! (get ! refl)
      (λ _. sets_last ! (agg ! (and_then ! (lit ! tt) (no_more !))) refl (tt, (record { fits = lit< tt }, tt)) $ exec ! 𝓣.C 𝓣.Λ Ev (after 4 fn.body) (at_ret Ev Post) $
      sets ! (of_opd ! (get ! refl)) refl (tt, (record { fits = lit< tt }, tt)) $ returns ! (look_at ! 0 refl) $ free_all ! refl $
      use0 𝓛 (‵ (Out.own_val None (live 0 vnil ∷ []))) (none_of 𝓛 Lr) $
      suffices ! _ (ends_at 𝓛 F.ended stayed (F.clauses 𝓛 at_mem run) z (live 0 vnil) None (tt, tt) (tt, tt)) $ says ! (sym gone) $
      nothing ! $ nothing ! $ fjoin ! $ join ! $ nothing ! $ join ! $ done !)
      (λ wrong. absurd wrong)))))
      (λ b o h x _ is ws gh testable. move ! (2 ∷ 3 ∷ []) $ drop ! $ drop ! $
      let w = both (vptr b o) h in
      let d : D E = record { ptr = block_ptr b o; alloc = v.alloc; value = x } in
      let made : Lr.Denot = record { ptr = block_ptr b o; alloc = v.alloc; value = x } in
      let typed = box_typed E h b o gh in
      let out : Val = live 1 (vcons w vnil) in
      let good : Good (layout Out) out = (and_tt _ typed.0, (record { fits = lit< tt }, (typed.1, tt))) in
      fsplit ! $ box_in E ! d b o x refl refl $ use1 𝓛 (‵ (Lr.own_val made (w ∷ []))) (id⊢ 𝓤 _) $ use1 𝓛 (‵ (Out.own_val (Some made) (out ∷ []))) (Some-of 𝓛 Lr made w) $
      let Γ : List (Item 𝓤) = ‵ (Out.own_val (Some made) (out ∷ [])) ∷ [] in
      by ! (subst (λ (us : List Val). ent 𝓤 (types.Kit.⋆ 𝓛 Γ) (WpFn 𝓤 H 𝓣.C 𝓣.Λ fn (us ++ []) Post)) (sym ws)
      (qed 𝓛 Γ ∵ enter ! 𝓣.C 𝓣.Λ fn (w ∷ []) _ $ alloc_all ! (λ ls. pass_all ! refl (typed, tt) $ let Ev = env fn.locals ls in
      sets ! (of_opd ! (get_in ! (fld ! refl (stop !)) (sub ! 0 refl (whole !)))) refl (tt, tt) $ sets ! (of_opd ! (get_in ! (fld ! refl (stop !)) (sub ! 1 refl (whole !)))) refl gh $
      sets ! (bin ! (get ! refl) (lit ! tt) (tests_null (block_ptr b o) testable)) refl (tt, tt) $ first ! $ branches ! (get ! refl) (λ wrong. absurd wrong)
      (λ _. sets ! (of_opd ! (get ! refl)) refl (tt, tt) $ sets ! (agg ! (and_then ! (get ! refl) (and_then ! (get ! refl) (no_more !)))) refl typed $
      sets_last ! (agg ! (and_then ! (lit ! tt) (and_then ! (get ! refl) (no_more !)))) refl good $ exec ! 𝓣.C 𝓣.Λ Ev (after 4 fn.body) (at_ret Ev Post) $
      sets ! (of_opd ! (get ! refl)) refl good $ returns ! (look_at ! 0 refl) $ free_all ! refl $
      suffices ! _ (ends_at 𝓛 F.ended stayed (F.clauses 𝓛 at_mem run) z out (Some made) (tt, tt) (tt, tt)) $ says ! (sym is) $
      nothing ! $ nothing ! $ fjoin ! $ join ! $ nothing ! $ join ! $ done !)))))

pub into_parts_spec : {M : Type 1} → stated.statement M
unfolding tables_of
into_parts_spec 𝓤 𝓛 𝓜 𝓡 wired =
    let 𝓣 : Tables 𝓤 𝓛.H = tables_of 𝓤 𝓛.H 𝓜 (tables 𝓤 𝓛.H 𝓜 𝓡 𝓡.env) in
    entered 𝓤 𝓛.H (triple_of 𝓛 F.signature (F.spec 𝓛 𝓜.mem 𝓡.returns)) 𝓣.C 𝓣.Λ #self code.function (code.unfolded 𝓤 𝓛.H 𝓜 𝓡 wired)
    (walk_Meets 𝓛 F.ended stayed (Goes-dropped 𝓛 0 From yes (λ κs x f. refl), tt) (F.clauses 𝓛 𝓜.mem 𝓡.returns) (WpFn 𝓤 𝓛.H 𝓣.C 𝓣.Λ code.function) (WpFn-mono 𝓤 𝓛.H 𝓛.laws 𝓣 code.function)
    (walk 𝓛 𝓜.mem 𝓡.returns 𝓣))
