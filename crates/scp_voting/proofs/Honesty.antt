-- The blocking test looks at the rows that are seen alone.
use Rattle.std.proofs.Common.{◌≡◌, ℕ, Bool, true, false, not, cond, ◌&&◌, ◌==◌, List, [], ◌∷◌, Some, filter, find, map, if◌then◌else◌, refl, sym, ◌∙◌, ap, subst}
use Rattle.std.specs.List.{AllByRecursion}
use Rattle.std.proofs.lemmas.Bool.{and_parts, and_from, eqb-true, true≢false}
use Rattle.scp_types.specs.Trees.{Slices}
use Rattle.scp_types.specs.declared.kind.Kind.{Kind}
use Rattle.scp_types.specs.declared.statement.Statement.{Statement}
use Rattle.scp_types.specs.Statements.{Sent, kind_of}
use Rattle.scp_spec.specs.Satisfaction.{names}
use Rattle.scp_spec.specs.Sets.{Names, among}
use Rattle.scp_spec.specs.Rows.{row, is_row_of, is_kind}
use Rattle.scp_spec.specs.Backing.{is_passed, passing_senders}
use Rattle.scp_spec.specs.Reach.{reach_of}
use Rattle.scp_spec.specs.Views.{Seen, others_reached, rows_seen, passing_with, blocking_passes, seen}
use Rattle.scp_spec.proofs.Reach.Chains.{reach_least}
use Rattle.scp_spec.proofs.Nodes.Views.{is_blocked-local}
use Rattle.scp_voting.specs.Searching.{IsHonest}
use Rattle.scp_voting.specs.Seeing.{Standpoint, seen_from}

-- the statements in the rows of a kind whose senders are in a set
abbrev statements_of : Names → Kind → List Sent → List Statement
statements_of set kind table = map (λ e. e.body) (filter (λ e. is_kind kind (kind_of e.body) && set e.sender) table)

-- tests that agree on the statements of a set's rows agree on the row of each node in it
row_agrees : (test other : Statement → Bool) (set : Names) (k : Kind) (u : ℕ) → set u ≡ true → (table : List Sent) → AllByRecursion (λ s. test s ≡ other s) (statements_of set k table)
    → is_passed test (find (is_row_of u k) table) ≡ is_passed other (find (is_row_of u k) table)
row_agrees test other set k u i [] all = refl
row_agrees test other set k u i (e ∷ es) all = go (is_row_of u k e) (is_kind k (kind_of e.body) && set e.sender) refl refl all (λ a. row_agrees test other set k u i es a)
  where
    is_there : is_row_of u k e ≡ true → (is_kind k (kind_of e.body) && set e.sender) ≡ true
    is_there h = let p = and_parts (e.sender == u) (is_kind k (kind_of e.body)) h in
        and_from (is_kind k (kind_of e.body)) (set e.sender) p.1 (ap set (eqb-true e.sender u p.0) ∙ i)

    go : (a b : Bool) → is_row_of u k e ≡ a → (is_kind k (kind_of e.body) && set e.sender) ≡ b
        → AllByRecursion (λ s. test s ≡ other s) (map (λ (x : Sent). x.body) (cond b (e ∷ filter (λ (x : Sent). is_kind k (kind_of x.body) && set x.sender) es) (filter (λ (x : Sent). is_kind k (kind_of x.body) && set x.sender) es)))
        → (AllByRecursion (λ s. test s ≡ other s) (statements_of set k es) → is_passed test (find (is_row_of u k) es) ≡ is_passed other (find (is_row_of u k) es))
        → is_passed test (cond a (Some e) (find (is_row_of u k) es)) ≡ is_passed other (cond a (Some e) (find (is_row_of u k) es))
    go true true h j all rest = all.0
    go true false h j all rest = absurd (true≢false (sym (is_there h) ∙ j))
    go false true h j all rest = rest all.1
    go false false h j all rest = rest all

-- the names of the configured slices are reached
pub names_reached : (own : ℕ) (configured : Slices) (table : List Sent) (u : ℕ) → among (names configured) u ≡ true → reach_of own configured table u ≡ true
names_reached own configured table u h = (reach_least own configured table).holds.configuration u h

passing_agrees : (own : ℕ) (configured : Slices) (table : List Sent) (k : Kind) (own_passes : Bool) (test other : Statement → Bool) → AllByRecursion (λ s. test s ≡ other s) (rows_seen own configured table k)
    → (u : ℕ) → among (names configured) u ≡ true → passing_with own table k own_passes test u ≡ passing_with own table k own_passes other u
unfolding rows_seen row
passing_agrees own configured table k own_passes test other all u h = go (own == u) refl
  where
    passed : (Statement → Bool) → Bool
    passed t = passing_senders table k t u

    go : (itself : Bool) → (own == u) ≡ itself → (if itself then own_passes else passed test) ≡ (if itself then own_passes else passed other)
    go true e = refl
    go false e =
        row_agrees test other (others_reached own configured table) k u
        (and_from (not (own == u)) (reach_of own configured table u) (ap not e) (names_reached own configured table u h)) table all

pub seen_honest : (own : ℕ) (configured : Slices) (leaders : List ℕ) (table : List Sent) → IsHonest (seen own configured leaders table)
unfolding seen blocking_passes
seen_honest own configured leaders table = record {
  blocking = λ k own_passes test other all.
      is_blocked-local configured (passing_with own table k own_passes test) (passing_with own table k own_passes other) (passing_agrees own configured table k own_passes test other all);
}

-- so does that of whatever is seen from somewhere
pub honest_from : (there : Seen) (at : Standpoint) → there ≡ seen_from at → IsHonest there
honest_from there at tied = subst IsHonest (sym tied) (seen_honest at.own at.configured at.leaders at.table)
