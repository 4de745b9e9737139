-- What a view of rows says of a quorum that backs a ballot.
use Rattle.std.proofs.Common.{◌≡◌, ℕ, Bool, true, false, ◌==◌, List, ◌∷◌, map, if◌then◌else◌, IsTrue, ◌↔◌, sym, ◌∙◌, ap, subst, inl, inr, ◌⊎◌}
use Rattle.std.proofs.Math.Path.{fun_ext}
use Rattle.std.proofs.lemmas.Bool.{cases_Bool, eqb-true}
use Rattle.scp_types.specs.Trees.{Slices}
use Rattle.scp_types.specs.Statements.{Sent}
use Rattle.scp_types.specs.declared.ballot.Ballot.{Ballot}
use Rattle.scp_types.specs.declared.kind.Kind.{Kind}
use Rattle.scp_types.specs.declared.statement.Statement.{Statement}
use Rattle.scp_spec.specs.Backing.{slices_by, passing_senders}
use Rattle.scp_spec.specs.Quorums.{HasQuorum}
use Rattle.scp_spec.specs.Satisfaction.{sat}
use Rattle.scp_spec.specs.Sets.{Names}
use Rattle.scp_spec.specs.Views.{Seen, passing_with, quorum_passes, seen}
use Rattle.scp_spec.proofs.Slices.Quorums.{has_quorum-from, has_quorum-found}
use Rattle.scp_spec.proofs.Slices.Satisfaction.{sat_monotone}
use Rattle.scp_spec.proofs.Nodes.Views.{lists}
use Rattle.scp_types.specs.Votes.{votes_or_accepts_prepare}
use Rattle.scp_voting.specs.Questions.{backs, kind_of_claim}
use Rattle.scp_voting.specs.declared.claim.Claim.{Claim}
use Rattle.scp_voting.specs.declared.claim.Claim.TheVariants.{Prepare}
use Rattle.line_table.specs.Listeners.{HeardRows, IsBacked}

-- where the node passes by its own row, who passes is told by rows alone
by-rows : (own : ℕ) (table : List Sent) (kind : Kind) (test : Statement → Bool) → passing_with own table kind (passing_senders table kind test own) test ≡ passing_senders table kind test
by-rows own table kind test = fun_ext (λ u. at u (cases_Bool (own == u)))
  where
    at : (u : ℕ) → ((own == u) ≡ true) ⊎ ((own == u) ≡ false) → passing_with own table kind (passing_senders table kind test own) test u ≡ passing_senders table kind test u
    at u (inl e) = ap (λ b. if b then passing_senders table kind test own else passing_senders table kind test u) e ∙ ap (passing_senders table kind test) (eqb-true own u e)
    at u (inr e) = ap (λ b. if b then passing_senders table kind test own else passing_senders table kind test u) e

-- the quorum test of a node that passes by its own row, by existence
pub quorum-by_rows : (own : ℕ) (configured : Slices) (leaders : List ℕ) (table : List Sent) (kind : Kind) (test : Statement → Bool)
    → IsTrue ((seen own configured leaders table).quorum kind (passing_senders table kind test own) test) ↔ HasQuorum sat (slices_by own configured table kind) (passing_senders table kind test) own
unfolding seen quorum_passes
quorum-by_rows own configured leaders table kind test =
    let all = own ∷ map (λ (e : Sent). e.sender) table in
    let slices_at = slices_by own configured table kind in
    let who = passing_with own table kind (passing_senders table kind test own) test in
    let rows = by-rows own table kind test in (
      λ h. subst (λ (p : Names). HasQuorum sat slices_at p own) rows (has_quorum-found sat slices_at all who own h),
      λ h. has_quorum-from sat slices_at sat_monotone all who own (lists own configured table kind) (subst (λ (p : Names). HasQuorum sat slices_at p own) (sym rows) h),
    )

-- what a view answers of those who back a ballot
pub backed-by_view : (h : HeardRows) (b : Ballot) (leaders : List ℕ) (v : Seen) (claim : Claim) (own_passes answer : Bool)
    → v ≡ seen h.configured.name h.configured.slices leaders h.rows → claim ≡ Prepare b → own_passes ≡ passing_senders h.rows Kind.Ballot (backs claim) h.configured.name
    → answer ≡ v.quorum (kind_of_claim claim) own_passes (backs claim) → IsTrue answer ↔ IsBacked h b
backed-by_view h b leaders v claim own_passes answer sees claimed own is =
    let test : Statement → Bool = λ s. votes_or_accepts_prepare s b in
    let passes : own_passes ≡ passing_senders h.rows Kind.Ballot test h.configured.name = own ∙ ap (λ (x : Claim). passing_senders h.rows Kind.Ballot (backs x) h.configured.name) claimed in
    let all : answer ≡ (seen h.configured.name h.configured.slices leaders h.rows).quorum Kind.Ballot (passing_senders h.rows Kind.Ballot test h.configured.name) test = is ∙ (λ i. (sees i).quorum (kind_of_claim (claimed i)) (passes i) (backs (claimed i))) in
    subst (λ (a : Bool). IsTrue a ↔ IsBacked h b) (sym all) (quorum-by_rows h.configured.name h.configured.slices leaders h.rows Kind.Ballot test)
