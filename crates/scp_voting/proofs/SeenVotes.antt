-- The two tests of what a node sees are federated voting by the rows of its table.
use Rattle.std.proofs.Common.{◌≡◌, ℕ, Bool, true, ◌||◌, List, ◌∷◌, Option, Some, map, option_map, if◌then◌else◌, IsTrue, ◌↔◌, ap, subst, sym, ◌∙◌, inl, inr, ◌⊎◌}
use Rattle.std.specs.Prelude.{IsSomeAnd}
use Rattle.std.proofs.lemmas.Bool.{or_cases, or_left, or_right}
use Rattle.scp_types.specs.Trees.{Slices}
use Rattle.scp_types.specs.Statements.{Sent}
use Rattle.scp_types.specs.declared.kind.Kind.{Kind}
use Rattle.scp_types.specs.declared.statement.Statement.{Statement}
use Rattle.scp_spec.specs.Rows.{row}
use Rattle.scp_spec.specs.Satisfaction.{sat, Blocks}
use Rattle.scp_spec.specs.Quorums.{HasQuorum}
use Rattle.scp_spec.specs.Backing.{slices_by}
use Rattle.scp_spec.specs.Views.{Seen, accepted, confirmed, passes, passing_with, quorum_passes, blocking_passes, seen}
use Rattle.scp_spec.proofs.Slices.Quorums.{has_quorum-from, has_quorum-found}
use Rattle.scp_spec.proofs.Equality.Sameness.{eqb-refl}
use Rattle.scp_spec.proofs.Slices.Satisfaction.{sat_monotone, sat_dual}
use Rattle.scp_spec.proofs.Nodes.Views.{lists}
use Rattle.scp_voting.specs.declared.claim.Claim.{Claim}
use Rattle.scp_voting.specs.Questions.{accepts, backs, kind_of_claim}
use Rattle.scp_voting.specs.Seeing.{standing, AcceptedByRows, ConfirmedByRows, AcceptsClaim, ConfirmsClaim, Standpoint, seen_from}

module _ (own : ℕ) (configured : Slices) (leaders : List ℕ) (table : List Sent) (kind : Kind) (own_passes : Bool) (test : Statement → Bool) where
  -- the quorum test, by existence
  quorum_is : IsTrue ((seen own configured leaders table).quorum kind own_passes test) ↔ HasQuorum sat (slices_by own configured table kind) (passing_with own table kind own_passes test) own
  unfolding seen quorum_passes
  quorum_is =
      let all = own ∷ map (λ (e : Sent). e.sender) table in
      let slices_at = slices_by own configured table kind in
      let passing = passing_with own table kind own_passes test in
      (λ h. has_quorum-found sat slices_at all passing own h, λ h. has_quorum-from sat slices_at sat_monotone all passing own (lists own configured table kind) h)

  -- the blocking test, by all sets apart
  blocking_is : IsTrue ((seen own configured leaders table).blocking kind own_passes test) ↔ Blocks sat configured (passing_with own table kind own_passes test)
  unfolding seen blocking_passes
  blocking_is = sat_dual configured (passing_with own table kind own_passes test)

-- the node's own slices are the configured ones
own_slices : (own : ℕ) (configured : Slices) (table : List Sent) (kind : Kind) → slices_by own configured table kind own ≡ Some configured
own_slices own configured table kind = ap (λ b. if b then Some configured else option_map (λ (e : Sent). e.slices) (row table own kind)) (eqb-refl own)

pub accepted_by_rows : AcceptedByRows
accepted_by_rows own configured leaders table kind position backs accepts = (λ h. over (or_cases quorum blocking h), λ h. back h)
  where
    quorum : Bool
    quorum = (seen own configured leaders table).quorum kind (passes backs position) backs

    blocking : Bool
    blocking = (seen own configured leaders table).blocking kind (passes accepts position) accepts

    Blocked : Option Slices → Type 0
    Blocked o = IsSomeAnd o (λ q. Blocks sat q (standing own table kind position accepts))

    Has : Type 0
    Has = HasQuorum sat (slices_by own configured table kind) (standing own table kind position backs) own

    over : (quorum ≡ true) ⊎ (blocking ≡ true) → Has ⊎ Blocked (slices_by own configured table kind own)
    over (inl h) = inl ((quorum_is own configured leaders table kind (passes backs position) backs).0 h)
    over (inr h) = inr (subst Blocked (sym (own_slices own configured table kind)) ((blocking_is own configured leaders table kind (passes accepts position) accepts).0 h))

    back : Has ⊎ Blocked (slices_by own configured table kind own) → IsTrue (quorum || blocking)
    back (inl h) = or_left quorum blocking ((quorum_is own configured leaders table kind (passes backs position) backs).1 h)
    back (inr h) = or_right quorum blocking ((blocking_is own configured leaders table kind (passes accepts position) accepts).1 (subst Blocked (own_slices own configured table kind) h))

pub confirmed_by_rows : ConfirmedByRows
confirmed_by_rows own configured leaders table kind position accepts = quorum_is own configured leaders table kind (passes accepts position) accepts

module _ (there : Seen) (at : Standpoint) (tied : there ≡ seen_from at) (position : Option Statement) (claim : Claim) (b : Bool) where
  -- an answer to whether the claim is accepted, by what is seen from there
  pub accepts_claim : b ≡ accepted there (kind_of_claim claim) position (backs claim) (accepts claim) → IsTrue b ↔ AcceptsClaim at position claim
  accepts_claim is =
      let law = accepted_by_rows at.own at.configured at.leaders at.table (kind_of_claim claim) position (backs claim) (accepts claim) in
      let same = is ∙ ap (λ s. accepted s (kind_of_claim claim) position (backs claim) (accepts claim)) tied in
      (λ h. law.0 (sym same ∙ h), λ h. same ∙ law.1 h)

  -- an answer to whether it is confirmed
  pub confirms_claim : b ≡ confirmed there (kind_of_claim claim) position (accepts claim) → IsTrue b ↔ ConfirmsClaim at position claim
  confirms_claim is =
      let law = confirmed_by_rows at.own at.configured at.leaders at.table (kind_of_claim claim) position (accepts claim) in
      let same = is ∙ ap (λ s. confirmed s (kind_of_claim claim) position (accepts claim)) tied in
      (λ h. law.0 (sym same ∙ h), λ h. same ∙ law.1 h)
