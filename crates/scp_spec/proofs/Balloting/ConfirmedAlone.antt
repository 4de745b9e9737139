-- Balloting reads of nomination the confirmed values alone: votes with other voted and accepted values are balloted on
-- alike. `Passes` stands on it.
use Rattle.std.proofs.Common.{◌≡◌, ℕ, ◌+◌, ◌-◌, max, Bool, true, false, not, ◌&&◌, ◌==◌, nat_lt, List, [], ◌∷◌, ◌++◌, Option, Some, None, if◌then◌else◌, filter, option_map, option_to_list, refl, ◌∙◌, ap}
use Rattle.scp_types.specs.declared.ballot.Ballot.{Ballot}
use Rattle.scp_types.specs.declared.kind.Kind.{Kind}
use Rattle.scp_types.specs.declared.statement.Statement.{Statement}
use Rattle.scp_types.specs.declared.state.Phase.{Phase}
use Rattle.scp_types.specs.declared.state.Phase.TheVariants.{Preparing, Committing, Externalized}
use Rattle.scp_types.specs.declared.state.Inputs.{Inputs}
use Rattle.scp_types.specs.declared.state.Votes.{Votes}
use Rattle.scp_types.specs.Votes.{same_value}
use Rattle.scp_spec.specs.Views.{Seen, passes}
use Rattle.scp_spec.specs.States.{ballot_with, high_counter, commit_counter, position, position_in}
use Rattle.scp_spec.specs.Timers.{cap}
use Rattle.scp_spec.specs.Candidates.{combine, commits, committed_in, greatest, least_from, lowest, named_ballots, named_in}
use Rattle.scp_spec.specs.Balloting.{prepare_accepted, prepare_confirmed, interval_accepted, interval_confirmed, with_first_ballot, start_from, start, aborted_by, may_be_prepared, accept_prepared, raise_confirmed_prepared, follow_confirmed_prepared, is_aborted, unless_aborted, or_confirmed_ballot, set_commit, confirm_prepared, accepted_from, first_committed, next_committed, enter_commit, widen_commit, accept_commit, confirmed_commit, externalize, confirm_commit}
use Rattle.scp_spec.specs.Passes.{has_counter, value_once_raised, ballot_at_counter, counter_after_raise, raise, arm, with_ballot, on_ballot, while_preparing, in_prepare, while_open, balloting, voting, counting, balloted_in}

module _ (vo ac : List (List ℕ)) where
  -- the votes with these voted and accepted values
  abbrev pub with_sets : Votes → Votes
  with_sets w = record w { voted = vo; accepts = ac }

  position-sets : (w : Votes) → position (with_sets w) ≡ position w
  unfolding position position_in high_counter commit_counter
  position-sets w = go w.phase w.ballot
    where
      go : (p : Phase) (o : Option Ballot) → option_map (position_in p (with_sets w)) o ≡ option_map (position_in p w) o
      go p None = refl
      go Preparing (Some b) = refl
      go Committing (Some b) = refl
      go Externalized (Some b) = refl

  -- ---- rule by rule
  start-sets : (s : Seen) (w : Votes) → start s (with_sets w) ≡ with_sets (start s w)
  unfolding start with_first_ballot named_ballots
  start-sets s w = go w.ballot
    where
      without : (z : Option (List ℕ)) → with_first_ballot s (with_sets w) z ≡ with_sets (with_first_ballot s w z)
      without (Some x) = refl
      without None =
          ap {B = Votes} (λ (o : Option Statement). record w {
            voted = vo;
            accepts = ac;
            ballot = greatest None (filter (prepare_accepted s o) (named_in (s.rows Kind.Ballot ++ option_to_list o)));
          }) (position-sets w)

      go : (o : Option Ballot) → start_from s (with_sets w) o ≡ with_sets (start_from s w o)
      go (Some b) = refl
      go None = without (combine w.confirms)

  prepared-sets : (s : Seen) (b : Ballot) (w : Votes)
      → accept_prepared s b (with_sets w) ≡ with_sets (accept_prepared s b w)
  unfolding accept_prepared named_ballots
  prepared-sets s b w = ap {B = Votes} (λ (o : Option Statement).
      let p = greatest w.prepared
      (filter (λ t. may_be_prepared w.phase b.value t && prepare_accepted s o t)
      (named_in (s.rows Kind.Ballot ++ option_to_list o))) in
      record w { voted = vo; accepts = ac; prepared = p; aborted = aborted_by w.prepared p w.aborted })
      (position-sets w)

  high-sets : (s : Seen) (w : Votes)
      → raise_confirmed_prepared s (with_sets w) ≡ with_sets (raise_confirmed_prepared s w)
  unfolding raise_confirmed_prepared named_ballots
  high-sets s w = ap {B = Votes} (λ (o : Option Statement).
      record w {
        voted = vo;
        accepts = ac;
        confirmed_prepared =
            greatest w.confirmed_prepared (filter (prepare_confirmed s o) (named_in (s.rows Kind.Ballot ++ option_to_list o)));
      }) (position-sets w)

  commit-sets : (w : Votes) → set_commit (with_sets w) ≡ with_sets (set_commit w)
  unfolding set_commit is_aborted high_counter
  commit-sets w =
      ap {B = Votes} (λ (c : Option Ballot). record w { voted = vo; accepts = ac; commit = c })
      (chosen-sets w.ballot (unless_aborted (with_sets w) w.commit) ∙ ap (or_confirmed_ballot w w.ballot) (cleared-sets w.commit))
    where
      cleared-sets : (c : Option Ballot) → unless_aborted (with_sets w) c ≡ unless_aborted w c
      cleared-sets None = refl
      cleared-sets (Some b) = refl

      chosen-sets : (b c : Option Ballot) → or_confirmed_ballot (with_sets w) b c ≡ or_confirmed_ballot w b c
      chosen-sets None c = refl
      chosen-sets (Some b) None = refl
      chosen-sets (Some b) (Some c) = refl

  confirmed-sets : (s : Seen) (b : Ballot) (w : Votes)
      → confirm_prepared s b (with_sets w) ≡ with_sets (confirm_prepared s b w)
  unfolding confirm_prepared follow_confirmed_prepared
  confirmed-sets s b w =
      ap (λ (x : Votes). set_commit (follow_confirmed_prepared b x)) (high-sets s w) ∙ commit-sets (follow_confirmed_prepared b (raise_confirmed_prepared s w))

  from-sets : (s : Seen) (w : Votes) (t : Ballot) → accepted_from s (with_sets w) t ≡ accepted_from s w t
  unfolding accepted_from commits
  from-sets s w t =
      ap (λ (o : Option Statement). lowest (λ low. interval_accepted s o t.value low t.counter) t.value t.counter
      (committed_in (s.rows Kind.Ballot ++ option_to_list o))) (position-sets w)

  enter-sets : (s : Seen) (b : Ballot) (w : Votes) (o : Option Ballot)
      → enter_commit s b (with_sets w) o ≡ with_sets (enter_commit s b w o)
  unfolding enter_commit
  enter-sets s b w None = refl
  enter-sets s b w (Some t) = ap {B = Votes} (λ (low : ℕ). record w {
    voted = vo;
    accepts = ac;
    phase = Committing;
    ballot = Some (ballot_with (max b.counter t.counter) t.value);
    prepared = greatest w.prepared (t ∷ []);
    confirmed_prepared = greatest w.confirmed_prepared (t ∷ []);
    low = low;
    high = t.counter;
  }) (from-sets s w t)

  widen-sets : (s : Seen) (b : Ballot) (w : Votes) (o : Option Ballot)
      → widen_commit s b (with_sets w) o ≡ with_sets (widen_commit s b w o)
  unfolding widen_commit
  widen-sets s b w None = refl
  widen-sets s b w (Some t) = ap {B = Votes} (λ (low : ℕ). record w {
    voted = vo;
    accepts = ac;
    ballot = Some (ballot_with (max b.counter t.counter) t.value);
    prepared = greatest w.prepared (t ∷ []);
    low = low;
    high = t.counter;
  }) (from-sets s w t)

  first-sets : (s : Seen) (w : Votes) → first_committed s (with_sets w) ≡ first_committed s w
  unfolding first_committed commits is_aborted
  first-sets s w =
      ap (λ (o : Option Statement). greatest None
      (filter (λ t. interval_accepted s o t.value t.counter t.counter && prepare_confirmed s o t
      && not (is_aborted w t)) (committed_in (s.rows Kind.Ballot ++ option_to_list o)))) (position-sets w)

  next-sets : (s : Seen) (b : Ballot) (w : Votes) → next_committed s b (with_sets w) ≡ next_committed s b w
  unfolding next_committed commits
  next-sets s b w =
      ap (λ (o : Option Statement). greatest None
      (filter (λ t. same_value t.value b.value && nat_lt w.high t.counter
      && interval_accepted s o t.value t.counter t.counter) (committed_in (s.rows Kind.Ballot ++ option_to_list o))))
      (position-sets w)

  accepted-sets : (p : Phase) (s : Seen) (b : Ballot) (w : Votes)
      → accept_commit p s b (with_sets w) ≡ with_sets (accept_commit p s b w)
  unfolding accept_commit
  accepted-sets Preparing s b w =
      ap (enter_commit s b (with_sets w)) (first-sets s w) ∙ enter-sets s b w (first_committed s w)
  accepted-sets Committing s b w =
      ap (widen_commit s b (with_sets w)) (next-sets s b w) ∙ widen-sets s b w (next_committed s b w)
  accepted-sets Externalized s b w = refl

  decided-sets : (s : Seen) (b : Ballot) (w : Votes) → confirmed_commit s b (with_sets w) ≡ confirmed_commit s b w
  unfolding confirmed_commit commits
  decided-sets s b w =
      ap (λ (o : Option Statement). greatest None
      (filter (λ t. same_value t.value b.value && interval_confirmed s o t.value t.counter t.counter)
      (committed_in (s.rows Kind.Ballot ++ option_to_list o)))) (position-sets w)

  externalize-sets : (s : Seen) (w : Votes) (o : Option Ballot)
      → externalize s (with_sets w) o ≡ with_sets (externalize s w o)
  unfolding externalize commits
  externalize-sets s w None = refl
  externalize-sets s w (Some t) = ap {B = Votes} (λ (o : Option Statement). record w {
    voted = vo;
    accepts = ac;
    phase = Externalized;
    low = lowest (λ low. interval_confirmed s o t.value low t.counter) t.value t.counter
        (committed_in (s.rows Kind.Ballot ++ option_to_list o));
    high = t.counter;
  }) (position-sets w)

  confirm-sets : (p : Phase) (s : Seen) (b : Ballot) (w : Votes)
      → confirm_commit p s b (with_sets w) ≡ with_sets (confirm_commit p s b w)
  unfolding confirm_commit
  confirm-sets Preparing s b w = refl
  confirm-sets Committing s b w =
      ap (externalize s (with_sets w)) (decided-sets s b w) ∙ externalize-sets s w (confirmed_commit s b w)
  confirm-sets Externalized s b w = refl

  ballot_at_counter-sets : (w : Votes) (b : Ballot) (n : ℕ)
      → ballot_at_counter (with_sets w) b n ≡ ballot_at_counter w b n
  ballot_at_counter-sets w b n = ap (λ (x : List ℕ). if n == b.counter then b else ballot_with n x) (go w.phase)
    where
      go : (p : Phase) → value_once_raised p (with_sets w) b.value ≡ value_once_raised p w b.value
      go Preparing = refl
      go Committing = refl
      go Externalized = refl

  raise-sets : (s : Seen) (g : Inputs) (b : Ballot) (w : Votes) → raise s g b (with_sets w) ≡ with_sets (raise s g b w)
  unfolding raise counter_after_raise
  raise-sets s g b w =
      ap {B = Votes} (λ (o : Option Statement). record w {
        voted = vo;
        accepts = ac;
        ballot = Some (ballot_at_counter (with_sets w) b
            (least_from (cap g.ballot_timeouts - b.counter) b.counter
            (λ n. not (s.blocking Kind.Ballot (passes (has_counter (n + 1)) o) (has_counter (n + 1))))));
      }) (position-sets w)
      ∙ ap {B = Votes} (λ (x : Ballot). record w { voted = vo; accepts = ac; ballot = Some x })
      (ballot_at_counter-sets w b (counter_after_raise s g b w))

  arm-sets : (s : Seen) (b : Ballot) (w : Votes) → arm s b (with_sets w) ≡ with_sets (arm s b w)
  unfolding arm
  arm-sets s b w =
      ap {B = Votes} (λ (o : Option Statement). if s.quorum Kind.Ballot (passes (has_counter b.counter) o)
      (has_counter b.counter) then record w { voted = vo; accepts = ac; armed = b.counter } else with_sets w)
      (position-sets w)
      ∙ go (s.quorum Kind.Ballot (passes (has_counter b.counter) (position w)) (has_counter b.counter))
    where
      go : (t : Bool)
          → (if t then record w { voted = vo; accepts = ac; armed = b.counter } else with_sets w)
          ≡ with_sets (if t then record w { armed = b.counter } else w)
      go true = refl
      go false = refl

  -- ---- all of them
  on-sets : (f : Ballot → Votes → Votes) → ((b : Ballot) (w : Votes) → f b (with_sets w) ≡ with_sets (f b w))
      → (w : Votes) → on_ballot f (with_sets w) ≡ with_sets (on_ballot f w)
  on-sets f same w = go w.ballot
    where
      go : (o : Option Ballot) → with_ballot f (with_sets w) o ≡ with_sets (with_ballot f w o)
      go None = refl
      go (Some b) = same b w

  preparing-sets : (f : Votes → Votes) → ((w : Votes) → f (with_sets w) ≡ with_sets (f w)) → (w : Votes)
      → in_prepare f (with_sets w) ≡ with_sets (in_prepare f w)
  preparing-sets f same w = go w.phase
    where
      go : (p : Phase) → while_preparing p f (with_sets w) ≡ with_sets (while_preparing p f w)
      go Preparing = same w
      go Committing = refl
      go Externalized = refl

  open-sets : (f : Votes → Votes) → ((w : Votes) → f (with_sets w) ≡ with_sets (f w)) → (p : Phase) (w : Votes)
      → while_open p f (with_sets w) ≡ with_sets (while_open p f w)
  open-sets f same Preparing w = same w
  open-sets f same Committing w = same w
  open-sets f same Externalized w = refl

  voting-sets : (s : Seen) (w : Votes) → voting s (with_sets w) ≡ with_sets (voting s w)
  unfolding voting
  voting-sets s w =
      let f2 : Votes → Votes = on_ballot (accept_prepared s) in
      let f3 : Votes → Votes = in_prepare (on_ballot (confirm_prepared s)) in
      let f4 : Votes → Votes = on_ballot (λ b w. accept_commit w.phase s b w) in
      let f5 : Votes → Votes = on_ballot (λ b w. confirm_commit w.phase s b w) in
      let e2 : f2 (with_sets w) ≡ with_sets (f2 w) = on-sets (accept_prepared s) (prepared-sets s) w in
      let e3 : f3 (f2 (with_sets w)) ≡ with_sets (f3 (f2 w)) = ap f3 e2
      ∙ preparing-sets (on_ballot (confirm_prepared s)) (on-sets (confirm_prepared s) (confirmed-sets s)) (f2 w) in
      let e4 : f4 (f3 (f2 (with_sets w))) ≡ with_sets (f4 (f3 (f2 w))) = ap f4 e3
      ∙ on-sets (λ b w. accept_commit w.phase s b w) (λ b w. accepted-sets w.phase s b w) (f3 (f2 w)) in
      ap f5 e4 ∙ on-sets (λ b w. confirm_commit w.phase s b w) (λ b w. confirm-sets w.phase s b w) (f4 (f3 (f2 w)))

  counting-sets : (s : Seen) (g : Inputs) (w : Votes) → counting s g (with_sets w) ≡ with_sets (counting s g w)
  unfolding counting
  counting-sets s g w =
      ap (on_ballot (arm s)) (on-sets (raise s g) (raise-sets s g) w)
      ∙ on-sets (arm s) (arm-sets s) (on_ballot (raise s g) w)

  balloting-sets : (s : Seen) (g : Inputs) (w : Votes) → balloting s g (with_sets w) ≡ with_sets (balloting s g w)
  balloting-sets s g w =
      let same : voting s (start s (with_sets w)) ≡ with_sets (voting s (start s w)) = ap (voting s) (start-sets s w)
      ∙ voting-sets s (start s w) in
      ap (λ (x : Votes). while_open x.phase (counting s g) x) same
      ∙ open-sets (counting s g) (counting-sets s g) (voting s (start s w)).phase (voting s (start s w))

  pub balloted-sets : (s : Seen) (g : Inputs) (w : Votes)
      → balloted_in s g (with_sets w) ≡ with_sets (balloted_in s g w)
  unfolding balloted_in
  balloted-sets s g w = open-sets (balloting s g) (balloting-sets s g) w.phase w
