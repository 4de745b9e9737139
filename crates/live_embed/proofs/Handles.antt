-- The machine values of a handle, which is in use or is not. Assumes `Logic`.
use Rattle.std.proofs.Common.{◌≡◌, ℕ, List, [], ◌∷◌, ◌++◌, refl, subst, Option, None, Some}
use seplogic.Ra.Ura.{Ura}
use mir.Raw.{raw as bare}
use mir.Val.{Val, vptr, vstruct, vcons, vnil, of_list}
use base.Logic.{ent, guard, never, via, fst∗, snd∗, guard_i}
use types.Logic.{Logic, sem}
use types.Kit.{Item, Goal, Seq, Step, step, ‵, given, ◌$◌, move, drop, use1, learn, fsplit, fjoin, fpick, fpack, feq_i, feq_l}
use contract.Monad.{fact_use}
use denote.RattleType.{RattleType, Valss}
use denote.Builtin.{RawPtr}
use denote.Memory.{lone}
use denote.RawPtr.{Ptr, block_ptr, null_ptr, ptr_val, in_a_block, Testable, lies_at}
use base.Fraction.{full_share}
use denote.Steps.{nothing}
use denote.Struct.Struct.{within}
use denote.Struct.Owning.{shape, to}
use denote.Param.{layout}
use Rattle.std.proofs.alloc.Calls.{handle_tells}
use Rattle.std.proofs.cell.Inside.{Good}
use Rattle.std.proofs.GlobalToken.{dealloc_token-Testable}
use Rattle.std.specs.Box.Ownership.{box_owns}
use Rattle.std.specs.declared.alloc.Global.{Global}
use Rattle.std.specs.contracts.alloc.Global as Heap
use Rattle.std.specs.contracts.impls.GlobalAllocator.TheImpl.{ghosts}
use Rattle.live_embed.specs.Owned.{handle_owns}
use Rattle.live_embed.specs.contracts.embedded.Embedded as Embedded
use Rattle.live_embed.specs.contracts.handle.ScpHost as ScpHost
use Rattle.live_embed.proofs.AsBox.{E}

abbrev R : RattleType
R = Embedded.the_row

abbrev Z : RattleType
Z = Heap.the_row

abbrev pub Host : RattleType
Host = ScpHost.the_row

abbrev pub both : Val → Val → Val
both v w = vstruct (vcons v (vcons w vnil))

module _ {M : Type 1} {𝓤 : Ura M} (𝓛 : Logic 𝓤) (a : Global) where
  -- the pointer of a handle in use may be compared with null
  tested : (p : Ptr) (x : R.Denot) → ent 𝓤 (sem 𝓛 (box_owns (ghosts.dealloc_token a) R p x)) (guard 𝓤 (Testable p) (sem 𝓛 (box_owns (ghosts.dealloc_token a) R p x)))
  tested p x =
      fact_use 𝓤 (Testable p) (via 𝓤 _ (snd∗ 𝓤 (sem 𝓛 (lies_at R full_share p x)) (sem 𝓛 (ghosts.dealloc_token a (bare (lone R.mir)) p))) (dealloc_token-Testable 𝓛 a (bare (lone R.mir)) p))
      (guard_i 𝓤 (Testable p) (sem 𝓛 (box_owns (ghosts.dealloc_token a) R p x)))

module _ {M : Type 1} {𝓤 : Ura M} {𝓛 : Logic 𝓤} {K : Type 0} {Γ : List (Item 𝓤)} {G : Goal 𝓤 𝓛.H} where
  -- a handle is not in use, and null, or a box lies at its pointer
  either : K → (a : Global) (p : Ptr) (kept : Option R.Denot) → (p ≡ null_ptr → kept ≡ None → Seq K 𝓛 Γ G)
      → ((b o : ℕ) (x : R.Denot) → p ≡ block_ptr b o → kept ≡ Some x → Testable (block_ptr b o) → Seq K 𝓛 (‵ (box_owns (ghosts.dealloc_token a) R (block_ptr b o) x) ∷ Γ) G)
      → Seq K 𝓛 (‵ (handle_owns a p kept) ∷ Γ) G
  either t a p None none some = feq_l t (λ e. none e refl)
  either t a p (Some x) none some =
      in_a_block t p (λ q. box_owns (ghosts.dealloc_token a) R q x) (fst∗ 𝓤 (never 𝓤) (sem 𝓛 (ghosts.dealloc_token a (bare (lone R.mir)) null_ptr))) (λ b o e.
      use1 𝓛 (given (Testable (block_ptr b o)) (‵ (box_owns (ghosts.dealloc_token a) R (block_ptr b o) x))) (tested 𝓛 a (block_ptr b o) x) $ learn t (λ testable. some b o x e refl testable))

module _ {M : Type 1} {𝓤 : Ura M} {𝓛 : Logic 𝓤} {K : Type 0} {Γ : List (Item 𝓤)} {G : Goal 𝓤 𝓛.H} where
  pub host_out : K → (d : Host.Denot) (vs : List Val)
      → ((h : Val) → d.at ≡ null_ptr → d.kept ≡ None → vs ≡ both (ptr_val null_ptr) h ∷ [] → Good (layout Z) h → Seq K 𝓛 (‵ (Z.own_val d.alloc (h ∷ [])) ∷ Γ) G)
      → ((b o : ℕ) (h : Val) (x : R.Denot) → d.at ≡ block_ptr b o → d.kept ≡ Some x → vs ≡ both (vptr b o) h ∷ [] → Good (layout Z) h → Testable (block_ptr b o)
      → Seq K 𝓛 (‵ (box_owns (ghosts.dealloc_token d.alloc) R (block_ptr b o) x) ∷ ‵ (Z.own_val d.alloc (h ∷ [])) ∷ Γ) G)
      → Seq K 𝓛 (‵ (Host.own_val d vs) ∷ Γ) G
  host_out t d vs none some =
      fsplit t $ fpick t (λ vss. fsplit t $ feq_l t (λ ev. fsplit t $ feq_l t (λ ep. fsplit t $ handle_tells E.al t d.alloc vss.1.0 (λ h ea fits. move t (1 ∷ []) $ drop t $ move t (1 ∷ []) $
      let is : (p : Ptr) → d.at ≡ p → vs ≡ both (ptr_val p) h ∷ [] = λ p e. subst (λ (q : Ptr). vs ≡ vstruct (of_list (ptr_val q ∷ h ∷ [])) ∷ []) e
      (subst (λ (ws : List Val). vs ≡ vstruct (of_list (ptr_val d.at ∷ (ws ++ []))) ∷ []) ea (subst (λ (ps : List Val). vs ≡ vstruct (of_list (ps ++ (vss.1.0 ++ []))) ∷ []) ep ev)) in
      either t d.alloc d.at d.kept (λ e k. none h e k (is null_ptr e) fits) (λ b o x e k testable. some b o h x e k (is (block_ptr b o) e) fits testable)))))

  pub none_in : K → (h : Val) (a : Global)
      → Step K 𝓛 (‵ (Host.own_val (record { at = null_ptr; alloc = a; kept = None }) (both (ptr_val null_ptr) h ∷ [])) ∷ Γ) G (‵ (Z.own_val a (h ∷ [])) ∷ Γ) G
  none_in t h a = step (λ s. let v : Val = both (ptr_val null_ptr) h in let made : Host.Denot = record { at = null_ptr; alloc = a; kept = None } in
      feq_i t Ptr null_ptr null_ptr refl $
      nothing t $ move t (2 ∷ 0 ∷ []) $ fjoin t $ feq_i t (List Val) (ptr_val null_ptr ∷ []) (ptr_val null_ptr ∷ []) refl $ fjoin t $ feq_i t (List Val) (v ∷ []) (v ∷ []) refl $ fjoin t $
      fpack t (Valss (RawPtr ∷ Z ∷ [])) (within (shape ScpHost.the_type) (to ScpHost.the_type made) (v ∷ [])) (ptr_val null_ptr ∷ [], (h ∷ [], tt)) $ fjoin t $ s)
