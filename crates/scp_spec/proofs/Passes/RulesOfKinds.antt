-- The rules of nomination read nomination rows alone, and those of balloting ballot rows. `Stirring` stands on it.
use Rattle.std.proofs.Common.{◌≡◌, ℕ, List, Option, Some, None, refl, ◌∙◌, ap}
use Rattle.scp_types.specs.declared.ballot.Ballot.{Ballot}
use Rattle.scp_types.specs.declared.state.Phase.{Phase}
use Rattle.scp_types.specs.declared.state.Phase.TheVariants.{Preparing, Committing, Externalized}
use Rattle.scp_types.specs.declared.state.Inputs.{Inputs}
use Rattle.scp_types.specs.declared.state.Votes.{Votes}
use Rattle.scp_spec.specs.Views.{Seen}
use Rattle.scp_spec.specs.Candidates.{named_ballots, commits, combine}
use Rattle.scp_spec.specs.Nominating.{echo, accept_values, confirm_values, nominate}
use Rattle.scp_spec.specs.Balloting.{with_first_ballot, start_from, start, accept_prepared, raise_confirmed_prepared, confirm_prepared, accepted_from, first_committed, next_committed, enter_commit, widen_commit, accept_commit, confirmed_commit, externalize, confirm_commit}
use Rattle.scp_spec.specs.Passes.{counter_after_raise, raise, arm, with_ballot, on_ballot, in_prepare, while_preparing, while_open, balloting, voting, counting, balloted_in}
use Rattle.scp_spec.proofs.Passes.RowsOfKinds.{nominations_of, ballots_of}

pub nominate-reads : (v : ℕ) (s : Seen) (g : Inputs) (w : Votes) → nominate v s g w ≡ nominate v (nominations_of s) g w
unfolding nominate echo accept_values confirm_values
nominate-reads v s g w = refl

-- ---- rule by rule
start-reads : (s : Seen) (w : Votes) → start s w ≡ start (ballots_of s) w
unfolding start with_first_ballot named_ballots
start-reads s w = go w.ballot (combine w.confirms)
  where
    without : (z : Option (List ℕ)) → with_first_ballot s w z ≡ with_first_ballot (ballots_of s) w z
    without (Some x) = refl
    without None = refl

    go : (o : Option Ballot) (z : Option (List ℕ)) → start_from s w o ≡ start_from (ballots_of s) w o
    go (Some b) z = refl
    go None z = without (combine w.confirms)

prepared-reads : (s : Seen) (b : Ballot) (w : Votes) → accept_prepared s b w ≡ accept_prepared (ballots_of s) b w
unfolding accept_prepared named_ballots
prepared-reads s b w = refl

confirmed-reads : (s : Seen) (b : Ballot) (w : Votes) → confirm_prepared s b w ≡ confirm_prepared (ballots_of s) b w
unfolding confirm_prepared raise_confirmed_prepared named_ballots
confirmed-reads s b w = refl

enter-reads : (s : Seen) (b : Ballot) (w : Votes) (o : Option Ballot)
    → enter_commit s b w o ≡ enter_commit (ballots_of s) b w o
unfolding enter_commit accepted_from commits
enter-reads s b w None = refl
enter-reads s b w (Some t) = refl

widen-reads : (s : Seen) (b : Ballot) (w : Votes) (o : Option Ballot)
    → widen_commit s b w o ≡ widen_commit (ballots_of s) b w o
unfolding widen_commit accepted_from commits
widen-reads s b w None = refl
widen-reads s b w (Some t) = refl

first-reads : (s : Seen) (w : Votes) → first_committed s w ≡ first_committed (ballots_of s) w
unfolding first_committed commits
first-reads s w = refl

next-reads : (s : Seen) (b : Ballot) (w : Votes) → next_committed s b w ≡ next_committed (ballots_of s) b w
unfolding next_committed commits
next-reads s b w = refl

commit-reads : (p : Phase) (s : Seen) (b : Ballot) (w : Votes)
    → accept_commit p s b w ≡ accept_commit p (ballots_of s) b w
unfolding accept_commit
commit-reads Preparing s b w =
    enter-reads s b w (first_committed s w) ∙ ap (enter_commit (ballots_of s) b w) (first-reads s w)
commit-reads Committing s b w =
    widen-reads s b w (next_committed s b w) ∙ ap (widen_commit (ballots_of s) b w) (next-reads s b w)
commit-reads Externalized s b w = refl

externalize-reads : (s : Seen) (w : Votes) (o : Option Ballot) → externalize s w o ≡ externalize (ballots_of s) w o
unfolding externalize commits
externalize-reads s w None = refl
externalize-reads s w (Some t) = refl

decided-reads : (s : Seen) (b : Ballot) (w : Votes) → confirmed_commit s b w ≡ confirmed_commit (ballots_of s) b w
unfolding confirmed_commit commits
decided-reads s b w = refl

confirm-reads : (p : Phase) (s : Seen) (b : Ballot) (w : Votes)
    → confirm_commit p s b w ≡ confirm_commit p (ballots_of s) b w
unfolding confirm_commit
confirm-reads Preparing s b w = refl
confirm-reads Committing s b w =
    externalize-reads s w (confirmed_commit s b w) ∙ ap (externalize (ballots_of s) w) (decided-reads s b w)
confirm-reads Externalized s b w = refl

raise-reads : (s : Seen) (g : Inputs) (b : Ballot) (w : Votes) → raise s g b w ≡ raise (ballots_of s) g b w
unfolding raise counter_after_raise
raise-reads s g b w = refl

arm-reads : (s : Seen) (b : Ballot) (w : Votes) → arm s b w ≡ arm (ballots_of s) b w
unfolding arm
arm-reads s b w = refl

-- ---- all of them
on-reads : (f h : Ballot → Votes → Votes) → ((b : Ballot) (w : Votes) → f b w ≡ h b w) → (w : Votes)
    → on_ballot f w ≡ on_ballot h w
on-reads f h same w = go w.ballot
  where
    go : (o : Option Ballot) → with_ballot f w o ≡ with_ballot h w o
    go None = refl
    go (Some b) = same b w

preparing-reads : (f h : Votes → Votes) → ((w : Votes) → f w ≡ h w) → (w : Votes) → in_prepare f w ≡ in_prepare h w
preparing-reads f h same w = go w.phase
  where
    go : (p : Phase) → while_preparing p f w ≡ while_preparing p h w
    go Preparing = same w
    go Committing = refl
    go Externalized = refl

open-reads : (f h : Votes → Votes) → ((w : Votes) → f w ≡ h w) → (p : Phase) (w : Votes)
    → while_open p f w ≡ while_open p h w
open-reads f h same Preparing w = same w
open-reads f h same Committing w = same w
open-reads f h same Externalized w = refl

voting-reads : (s : Seen) (w : Votes) → voting s w ≡ voting (ballots_of s) w
unfolding voting
voting-reads s w =
    let t = ballots_of s in
    let f2 : Votes → Votes = on_ballot (accept_prepared t) in
    let f3 : Votes → Votes = in_prepare (on_ballot (confirm_prepared t)) in
    let f4 : Votes → Votes = on_ballot (λ b w. accept_commit w.phase t b w) in
    let w2 = on_ballot (accept_prepared s) w in
    let w3 = in_prepare (on_ballot (confirm_prepared s)) w2 in
    let w4 = on_ballot (λ b w. accept_commit w.phase s b w) w3 in
    let e2 : w2 ≡ f2 w = on-reads (accept_prepared s) (accept_prepared t) (prepared-reads s) w in
    let e3 : w3 ≡ f3 (f2 w) =
    preparing-reads (on_ballot (confirm_prepared s)) (on_ballot (confirm_prepared t))
    (on-reads (confirm_prepared s) (confirm_prepared t) (confirmed-reads s)) w2 ∙ ap f3 e2 in
    let e4 : w4 ≡ f4 (f3 (f2 w)) =
    on-reads (λ b w. accept_commit w.phase s b w) (λ b w. accept_commit w.phase t b w)
    (λ b w. commit-reads w.phase s b w) w3 ∙ ap f4 e3 in
    on-reads (λ b w. confirm_commit w.phase s b w) (λ b w. confirm_commit w.phase t b w)
    (λ b w. confirm-reads w.phase s b w) w4 ∙ ap (on_ballot (λ b w. confirm_commit w.phase t b w)) e4

counting-reads : (s : Seen) (g : Inputs) (w : Votes) → counting s g w ≡ counting (ballots_of s) g w
unfolding counting
counting-reads s g w =
    on-reads (arm s) (arm (ballots_of s)) (arm-reads s) (on_ballot (raise s g) w)
    ∙ ap (on_ballot (arm (ballots_of s))) (on-reads (raise s g) (raise (ballots_of s) g) (raise-reads s g) w)

balloting-reads : (s : Seen) (g : Inputs) (w : Votes) → balloting s g w ≡ balloting (ballots_of s) g w
balloting-reads s g w =
    let t = ballots_of s in
    let same : voting s (start s w) ≡ voting t (start t w) = voting-reads s (start s w)
    ∙ ap (voting t) (start-reads s w) in
    open-reads (counting s g) (counting t g) (counting-reads s g) (voting s (start s w)).phase (voting s (start s w))
    ∙ ap (λ (x : Votes). while_open x.phase (counting t g) x) same

pub balloted-reads : (s : Seen) (g : Inputs) (w : Votes) → balloted_in s g w ≡ balloted_in (ballots_of s) g w
unfolding balloted_in
balloted-reads s g w = open-reads (balloting s g) (balloting (ballots_of s) g) (balloting-reads s g) w.phase w
