-- What a node knows of its reach: a list of the ballots that rows speak of stands for these rows, and what nobody lists is right.
use Rattle.std.proofs.Common.{◌≡◌, ℕ, List, Option, Some, None, false, IfSome, refl, subst, sym}
use Rattle.scp_types.specs.Statements.{Sent}
use Rattle.scp_types.specs.declared.kind.Kind.{Kind}
use Rattle.scp_spec.specs.Candidates.{committed_by, named_by}
use Rattle.scp_spec.specs.Rows.{with_row}
use Rattle.node_view.specs.Knowing.{AreBallotsOf, AreSearched, is_heard}
use Rattle.node_view.specs.declared.reached_ballots.ReachedBallots.{ReachedBallots}
use Rattle.node_view.proofs.Following.{listed_alike}
use Rattle.node_view.proofs.GroupLaws.{none_stirred}
use Rattle.node_view.proofs.ListedLaws.{listed_stand}

-- searches go through listed ballots as through the rows
pub searched : (own : ℕ) (table : List Sent) (nodes : List ℕ) (o : Option ReachedBallots) → IfSome o (λ b. AreBallotsOf own table nodes b) → IfSome o (λ b. AreSearched own Kind.Ballot table nodes b)
searched own table nodes None are = tt
searched own table nodes (Some b) are = (listed_stand b.named _ _ refl are.named, listed_stand b.committed _ _ refl are.committed)

-- a row of the other kind, of the node itself or of a stranger leaves what is listed
pub unheard_listed : (own : ℕ) (nodes : List ℕ) (old new : List Sent) (e : Sent) → is_heard Kind.Ballot own nodes e ≡ false → new ≡ with_row e old
    → (o : Option ReachedBallots) → IfSome o (λ b. AreBallotsOf own old nodes b) → IfSome o (λ b. AreBallotsOf own new nodes b)
unheard_listed own nodes old new e unheard is None are = tt
unheard_listed own nodes old new e unheard is (Some b) are = subst (λ (t : List Sent). AreBallotsOf own t nodes b) (sym is) record {
  named = listed_alike Kind.Ballot own nodes old e unheard named_by b.named are.named;
  committed = listed_alike Kind.Ballot own nodes old e unheard committed_by b.committed are.committed;
  alike = none_stirred own nodes Kind.Ballot old e unheard b.alike are.alike;
}
