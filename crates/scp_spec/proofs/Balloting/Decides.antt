-- A commit that is confirmed: what deciding changes, and where nothing is decided. `Passes` stands on it.
use Rattle.std.proofs.Common.{◌≡◌, Bool, ◌&&◌, nat_lt, List, ◌++◌, Option, Some, None, filter, flat_map, option_to_list, refl, inl, inr, ◌⊎◌}
use Rattle.scp_types.specs.declared.ballot.Ballot.{Ballot}
use Rattle.scp_types.specs.declared.statement.Statement.{Statement}
use Rattle.scp_spec.proofs.Balloting.Tests.{takes_commit}
use Rattle.scp_types.specs.declared.kind.Kind.{Kind}
use Rattle.scp_spec.specs.Views.{Seen, confirmed}
use Rattle.scp_types.specs.declared.state.Votes.{Votes}
use Rattle.scp_spec.specs.States.{position}
use Rattle.scp_spec.specs.Candidates.{greatest, committed_by, commits, lowest}
use Rattle.scp_spec.specs.Balloting.{commit_confirmed, confirm_commit, confirmed_commit, externalize}
use Rattle.scp_types.specs.declared.state.Phase.TheVariants.{Committing, Externalized}
use Rattle.scp_spec.proofs.Balloting.PreparedStays.{Sound}
use Rattle.scp_types.specs.Votes.{same_value}

-- the ballots whose commit is confirmed, for a position
abbrev pub deciding : Seen → Option Statement → Ballot → List Ballot
deciding s o b =
    filter (λ t. (same_value t.value b.value) && confirmed s Kind.Ballot o (takes_commit t.value t.counter t.counter))
    (filter (λ b. nat_lt 0 b.counter) (flat_map committed_by (s.rows Kind.Ballot ++ option_to_list o)))

pub decide_not : (s : Seen) (b : Ballot) (w : Votes) → greatest None (deciding s (position w) b) ≡ None
    → confirm_commit Committing s b w ≡ w
unfolding confirm_commit confirmed_commit externalize commits
decide_not s b w e = rw e refl

-- confirm commit
pub record Decided (s : Seen) (b : Ballot) (w : Votes) : Type 0 where
  pub u : Votes
  pub is : confirm_commit Committing s b w ≡ u
  pub phase : u.phase ≡ Externalized
  pub sound : Sound u
  pub voted : u.voted ≡ w.voted
  pub accepts : u.accepts ≡ w.accepts
  pub confirms : u.confirms ≡ w.confirms
  pub confirmed_prepared : u.confirmed_prepared ≡ w.confirmed_prepared

pub decides : (s : Seen) (b : Ballot) (w : Votes) → Sound w
    → (greatest None (deciding s (position w) b) ≡ None) ⊎ Decided s b w
unfolding confirm_commit confirmed_commit externalize commits
decides s b w sound = go (greatest None (filter test (commits s w))) refl
  where
    test : Ballot → Bool
    test = λ t. (same_value t.value b.value) && commit_confirmed s w t.value t.counter t.counter

    go : (o : Option Ballot) → greatest None (filter test (commits s w)) ≡ o
        → (greatest None (deciding s (position w) b) ≡ None) ⊎ Decided s b w
    go None e = inl e
    go (Some t) e = inr (record {
      u = record w {
        phase = Externalized;
        high = t.counter;
        low = lowest (λ low. commit_confirmed s w t.value low t.counter) t.value t.counter (commits s w);
      };
      is = rw e refl;
      phase = refl;
      sound =
          record { aborted = sound.aborted; confirmed_prepared = sound.confirmed_prepared; committing = λ (c : Externalized ≡ Committing). cc };
      voted = refl;
      accepts = refl;
      confirms = refl;
      confirmed_prepared = refl;
    })
