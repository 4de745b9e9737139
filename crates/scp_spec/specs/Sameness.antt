-- Tests of equality, field by field.
use Rattle.std.specs.Prelude.{ℕ, Bool, true, false, ◌&&◌, ◌==◌, List, [], ◌∷◌, Option, Some, None}
use Rattle.scp_types.specs.declared.ballot.Ballot.{Ballot}
use Rattle.scp_types.specs.declared.statement.Statement.{Statement}
use Rattle.scp_types.specs.declared.statement.Statement.TheVariants.{Nominate, Prepare, Commit, Externalize}
use Rattle.scp_types.specs.Votes.{same_value}
use Rattle.scp_types.specs.declared.state.Phase.{Phase}
use Rattle.scp_types.specs.declared.state.Votes.{Votes}
use Rattle.scp_types.specs.declared.state.Phase.TheVariants.{Preparing, Committing, Externalized}

-- two lists have the same values, in order
abbrev pub same_values : List (List ℕ) → List (List ℕ) → Bool
same_values [] [] = true
same_values [] (y ∷ ys) = false
same_values (x ∷ xs) [] = false
same_values (x ∷ xs) (y ∷ ys) = same_value x y && same_values xs ys

-- one counter, and one value
abbrev pub same_ballot : Ballot → Ballot → Bool
same_ballot a b = (a.counter == b.counter) && same_value a.value b.value

-- both are there and the same, or neither is
abbrev pub same_option : {A : Type 0} → (A → A → Bool) → Option A → Option A → Bool
same_option same None None = true
same_option same None (Some b) = false
same_option same (Some a) None = false
same_option same (Some a) (Some b) = same a b

-- one phase
abbrev pub same_phase : Phase → Phase → Bool
same_phase Preparing Preparing = true
same_phase Committing Committing = true
same_phase Externalized Externalized = true
same_phase _ _ = false

-- one kind of statement, with the same fields
abbrev pub same_statement : Statement → Statement → Bool
same_statement (Nominate v a) (Nominate w b) = same_values v w && same_values a b
same_statement (Prepare b p a h c) (Prepare b' p' a' h' c') =
    same_ballot b b' && same_option same_ballot p p' && (a == a') && (h == h') && (c == c')
same_statement (Commit b p h c) (Commit b' p' h' c') = same_ballot b b' && (p == p') && (h == h') && (c == c')
same_statement (Externalize b h) (Externalize b' h') = same_ballot b b' && (h == h')
same_statement _ _ = false

-- what is sent is the same, or both send nothing
abbrev pub same_sent : Option Statement → Option Statement → Bool
same_sent = same_option same_statement

-- all that passes change is the same
unfoldable pub same_votes : Votes → Votes → Bool
same_votes u w =
    same_values u.voted w.voted && same_values u.accepts w.accepts && same_values u.confirms w.confirms
    && same_phase u.phase w.phase
    && same_option same_ballot u.ballot w.ballot && same_option same_ballot u.prepared w.prepared
    && (u.aborted == w.aborted)
    && same_option same_ballot u.confirmed_prepared w.confirmed_prepared && same_option same_ballot u.commit w.commit
    && (u.low == w.low) && (u.high == w.high) && (u.armed == w.armed)
