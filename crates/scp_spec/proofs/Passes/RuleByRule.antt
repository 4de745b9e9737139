-- A pass, rule by rule. `Sending` stands on it.
use Rattle.std.proofs.Common.{◌≡◌, ℕ, ◌+◌, Bool, true, false, ◌&&◌, ◌==◌, nat_lt, nat_le, ◌++◌, Option, Some, None, if◌then◌else◌, filter, flat_map, option_to_list, refl, sym, ◌∙◌, ap, subst, inl, inr, ◌⊎◌, arith}
use Rattle.std.proofs.lemmas.Bool.{eqb-true}
use Rattle.std.proofs.lemmas.Bool.Decides.{nat_tests}
use Rattle.scp_types.specs.declared.ballot.Ballot.{Ballot}
use Rattle.scp_types.specs.declared.statement.Statement.{Statement}
use Rattle.scp_spec.proofs.Balloting.Tests.{backs_prepare, takes_prepare, Fair}
use Rattle.scp_spec.specs.Passes.{has_counter, value_once_raised, ballot_at_counter, raise, arm, on_ballot, in_prepare, counting, pass, while_open, pass_rules, voting}
use Rattle.scp_types.specs.declared.kind.Kind.{Kind}
use Rattle.scp_spec.specs.Views.{Seen, passes, accepted, confirmed}
use Rattle.scp_types.specs.declared.state.Phase.{Phase}
use Rattle.scp_types.specs.declared.state.Inputs.{Inputs}
use Rattle.scp_types.specs.declared.state.Votes.{Votes}
use Rattle.scp_spec.specs.States.{ballot_with, position}
use Rattle.scp_spec.specs.Candidates.{greatest, named_by, named_ballots}
use Rattle.scp_spec.specs.Balloting.{aborted_by, may_be_prepared, start, accept_prepared, raise_confirmed_prepared, follow_confirmed_prepared, is_aborted, set_commit, accept_commit, confirm_commit, confirm_prepared}
use Rattle.scp_spec.specs.Nominating.{nominate}
use Rattle.scp_types.specs.declared.state.Phase.TheVariants.{Preparing, Committing, Externalized}
use Rattle.scp_spec.proofs.Balloting.Counters.{position-armed, Risen, raise-moves, raise-still, arm-moves}
use Rattle.scp_spec.proofs.Balloting.OwnPosition.{position-preparing, position-committing}
use Rattle.scp_spec.proofs.Balloting.PreparedStays.{Sound}
use Rattle.scp_spec.proofs.Balloting.EntersCommit.{entering}
use Rattle.std.proofs.lemmas.Option.{same_Some}

abbrev pub r2 : Seen → Votes → Votes
r2 s w = on_ballot (accept_prepared s) w

-- to confirm a ballot as prepared, rule by rule
abbrev confirms_prepared : Seen → Ballot → Votes → Votes
confirms_prepared s b w = set_commit (follow_confirmed_prepared b (raise_confirmed_prepared s w))

abbrev pub r3 : Seen → Votes → Votes
r3 s w = in_prepare (on_ballot (confirms_prepared s)) w

abbrev pub r4 : Seen → Votes → Votes
r4 s w = on_ballot (λ b w. accept_commit w.phase s b w) w

abbrev pub r5 : Seen → Votes → Votes
r5 s w = on_ballot (λ b w. confirm_commit w.phase s b w) w

abbrev pub ruled : Seen → Votes → Votes
ruled s w = r5 s (r4 s (r3 s (r2 s w)))

abbrev pub tail : Seen → Inputs → Votes → Votes
tail s g w = on_ballot (arm s) (on_ballot (raise s g) w)

abbrev pub begun : ℕ → Seen → Inputs → Votes → Votes
begun v s g w = start s (nominate v s g w)

abbrev pub finish : Seen → Inputs → Votes → Votes
finish s g w = while_open w.phase (tail s g) w

-- no value was externalized
abbrev pub IsOpen : Votes → Type 0
IsOpen w = (w.phase ≡ Preparing) ⊎ (w.phase ≡ Committing)

pub open-runs : (f : Votes → Votes) (w : Votes) → IsOpen w → while_open w.phase f w ≡ f w
open-runs f w (inl e) = ap (λ p. while_open p f w) e
open-runs f w (inr e) = ap (λ p. while_open p f w) e

pub pass-ruled : (v : ℕ) (s : Seen) (g : Inputs) (w : Votes) → IsOpen w
    → pass v s g w ≡ finish s g (ruled s (begun v s g w))
unfolding pass pass_rules voting counting confirm_prepared
pass-ruled v s g w o = open-runs (pass_rules v s g) w o

pub pass-externalized : (v : ℕ) (s : Seen) (g : Inputs) (w : Votes) → w.phase ≡ Externalized → pass v s g w ≡ w
unfolding pass pass_rules voting counting confirm_prepared
pass-externalized v s g w e = ap (λ p. while_open p (pass_rules v s g) w) e

pub on_ballot-at : (F : Ballot → Votes → Votes) (w : Votes) (b : Ballot) → w.ballot ≡ Some b → on_ballot F w ≡ F b w
on_ballot-at F w b e = rw e refl

on_ballot-none : (F : Ballot → Votes → Votes) (w : Votes) → w.ballot ≡ None → on_ballot F w ≡ w
on_ballot-none F w e = rw e refl

-- the rules where b is there, in PREPARE and in COMMIT
r2-at : (s : Seen) (w : Votes) (b : Ballot) → w.ballot ≡ Some b → r2 s w ≡ accept_prepared s b w
r2-at s w b e = on_ballot-at (accept_prepared s) w b e

prepared-keeps : (s : Seen) (b : Ballot) (w : Votes)
    → ((accept_prepared s b w).ballot ≡ w.ballot) × ((accept_prepared s b w).phase ≡ w.phase)
unfolding accept_prepared
prepared-keeps s b w = (refl, refl)

in_prepare-at : (F : Votes → Votes) (w : Votes) → w.phase ≡ Preparing → in_prepare F w ≡ F w
in_prepare-at F w e = rw e refl

in_prepare-not : (F : Votes → Votes) (w : Votes) → w.phase ≡ Committing → in_prepare F w ≡ w
in_prepare-not F w e = rw e refl

r3-at : (s : Seen) (w : Votes) (b : Ballot) → w.phase ≡ Preparing → w.ballot ≡ Some b
    → r3 s w ≡ set_commit (follow_confirmed_prepared b (raise_confirmed_prepared s w))
r3-at s w b p e = in_prepare-at (on_ballot (confirms_prepared s)) w p
    ∙ on_ballot-at (confirms_prepared s) w b e

r3-not : (s : Seen) (w : Votes) → w.phase ≡ Committing → r3 s w ≡ w
r3-not s w p = in_prepare-not (on_ballot (confirms_prepared s)) w p

pub r4-at : (s : Seen) (w : Votes) (b : Ballot) (p : Phase) → w.phase ≡ p → w.ballot ≡ Some b
    → r4 s w ≡ accept_commit p s b w
r4-at s w b p e k = on_ballot-at (λ b w. accept_commit w.phase s b w) w b k ∙ ap (λ q. accept_commit q s b w) e

pub r5-at : (s : Seen) (w : Votes) (b : Ballot) (p : Phase) → w.phase ≡ p → w.ballot ≡ Some b
    → r5 s w ≡ confirm_commit p s b w
r5-at s w b p e k = on_ballot-at (λ b w. confirm_commit w.phase s b w) w b k ∙ ap (λ q. confirm_commit q s b w) e

pub r23-preparing : (s : Seen) (w : Votes) (b : Ballot) → w.phase ≡ Preparing → w.ballot ≡ Some b
    → r3 s (r2 s w) ≡ set_commit (follow_confirmed_prepared b (raise_confirmed_prepared s (accept_prepared s b w)))
r23-preparing s w b p e =
    ap (r3 s) (r2-at s w b e)
    ∙ r3-at s (accept_prepared s b w) b ((prepared-keeps s b w).1 ∙ p) ((prepared-keeps s b w).0 ∙ e)

pub r234-committing : (s : Seen) (w : Votes) (b : Ballot) → w.phase ≡ Committing → w.ballot ≡ Some b
    → r4 s (r3 s (r2 s w)) ≡ accept_commit Committing s b (accept_prepared s b w)
r234-committing s w b p e =
    let x = accept_prepared s b w in
    let px : x.phase ≡ Committing = (prepared-keeps s b w).1 ∙ p in
    let bx : x.ballot ≡ Some b = (prepared-keeps s b w).0 ∙ e in
    ap (λ y. r4 s (r3 s y)) (r2-at s w b e) ∙ (ap (r4 s) (r3-not s x px) ∙ r4-at s x b Committing px bx)

pub ruled-none : (s : Seen) (w : Votes) → w.phase ≡ Preparing → w.ballot ≡ None → ruled s w ≡ w
ruled-none s w p e =
    let a : r2 s w ≡ w = on_ballot-none (accept_prepared s) w e in
    let b : r3 s w ≡ w = in_prepare-at (on_ballot (confirms_prepared s)) w p
    ∙ on_ballot-none (confirms_prepared s) w e in
    let c : r4 s w ≡ w = on_ballot-none (λ b w. accept_commit w.phase s b w) w e in
    let d : r5 s w ≡ w = on_ballot-none (λ b w. confirm_commit w.phase s b w) w e in
    ap (λ y. r5 s (r4 s (r3 s y))) a ∙ (ap (λ y. r5 s (r4 s y)) b ∙ (ap (λ y. r5 s y) c ∙ d))

pub finish-none : (s : Seen) (g : Inputs) (w : Votes) → w.ballot ≡ None → finish s g w ≡ w
finish-none s g w e = go w.phase
  where
    both : tail s g w ≡ w
    both = ap (on_ballot (arm s)) (on_ballot-none (raise s g) w e) ∙ on_ballot-none (arm s) w e

    go : (p : Phase) → while_open p (tail s g) w ≡ w
    go Preparing = both
    go Committing = both
    go Externalized = refl

-- the counters
pub record Counted (s : Seen) (g : Inputs) (w : Votes) (b : Ballot) : Type 0 where
  pub u : Votes
  pub is : tail s g w ≡ u
  pub n : Ballot
  pub ballot : u.ballot ≡ Some n
  pub phase : u.phase ≡ w.phase
  pub risen : Risen s g n.counter
  pub sound : Sound u
  pub voted : u.voted ≡ w.voted
  pub accepts : u.accepts ≡ w.accepts
  pub confirms : u.confirms ≡ w.confirms
  pub confirmed_prepared : u.confirmed_prepared ≡ w.confirmed_prepared

pub ballot_at_counter-counter : (w : Votes) (b : Ballot) (n : ℕ) → (ballot_at_counter w b n).counter ≡ n
ballot_at_counter-counter w b n = go (n == b.counter) refl
  where
    go : (c : Bool) → (n == b.counter) ≡ c
        → (if c then b else ballot_with n (value_once_raised w.phase w b.value)).counter ≡ n
    go true e = sym (eqb-true n b.counter e)
    go false e = refl

pub ballot_at_counter-stays : (w : Votes) (b : Ballot) (n : ℕ) → w.phase ≡ Committing
    → (ballot_at_counter w b n).value ≡ b.value
ballot_at_counter-stays w b n p = go (n == b.counter)
  where
    go : (c : Bool) → (if c then b else ballot_with n (value_once_raised w.phase w b.value)).value ≡ b.value
    go true = refl
    go false = ap (λ q. value_once_raised q w b.value) p

-- a raised ballot, whatever is armed
pub ballot_at_counter-sound : (w : Votes) (b : Ballot) (n armed : ℕ) → w.ballot ≡ Some b → Sound w
    → Sound (record w { ballot = Some (ballot_at_counter w b n); armed = armed })
ballot_at_counter-sound w b n armed e sound =
    record {
      aborted = sound.aborted;
      confirmed_prepared = sound.confirmed_prepared;
      committing = λ c. let h = sound.committing c in let z : h.b ≡ b = same_Some h.b b (sym h.ballot ∙ e) in
          record {
            b = ballot_at_counter w b n;
            p = h.p;
            ballot = refl;
            prepared = h.prepared;
            value = h.value ∙ (ap (λ (x : Ballot). x.value) z ∙ sym (ballot_at_counter-stays w b n c));
            high = h.high;
            low = h.low;
          };
    }

pub counts-on : (s : Seen) → Fair s → (g : Inputs) (w : Votes) (b : Ballot) → w.ballot ≡ Some b → Sound w
    → Counted s g w b
counts-on s f g w b e sound =
    let r = raise-moves s f g b w in
    let x : Votes = record w { ballot = Some (ballot_at_counter w b r.0) } in
    let a = arm-moves s (ballot_at_counter w b r.0) x in
    record {
      u = record x { armed = a.0 };
      is = ap (on_ballot (arm s)) (on_ballot-at (raise s g) w b e ∙ r.1)
          ∙ (on_ballot-at (arm s) x (ballot_at_counter w b r.0) refl ∙ a.1);
      n = ballot_at_counter w b r.0;
      ballot = refl;
      phase = refl;
      risen = subst (λ n. Risen s g n) (sym (ballot_at_counter-counter w b r.0)) r.3;
      sound = ballot_at_counter-sound w b r.0 a.0 e sound;
      voted = refl;
      accepts = refl;
      confirms = refl;
      confirmed_prepared = refl;
    }

-- where nothing is to be raised
pub has_counter-still : (s : Seen) → Fair s → (g : Inputs) (w : Votes) (b : Ballot) → w.ballot ≡ Some b
    → passes (has_counter (b.counter + 1)) (position w) ≡ false → Risen s g b.counter → tail s g w ≡ arm s b w
has_counter-still s f g w b e c r =
    ap (on_ballot (arm s)) (on_ballot-at (raise s g) w b e ∙ raise-still s f g b w e c r) ∙ on_ballot-at (arm s) w b e

above : (n : ℕ) → nat_le (n + 1) n ≡ false
above n = grind (arith, nat_tests)

pub own-counts : (w : Votes) (b : Ballot) → IsOpen w → w.ballot ≡ Some b
    → passes (has_counter (b.counter + 1)) (position w) ≡ false
own-counts w b (inl p) e = rw (position-preparing w b p e) (above b.counter)
own-counts w b (inr p) e = rw (position-committing w b p e) (above b.counter)

-- what is armed is not read
pub accept_prepared-armed : (s : Seen) (b : Ballot) (w : Votes) (k : ℕ)
    → accept_prepared s b (record w { armed = k }) ≡ record (accept_prepared s b w) { armed = k }
unfolding accept_prepared named_ballots
accept_prepared-armed s b w k = ap {B = Votes} (λ (o : Option Statement).
    let p = greatest w.prepared
    (filter (λ t. may_be_prepared w.phase b.value t && accepted s Kind.Ballot o (backs_prepare t) (takes_prepare t))
    (filter (λ b. nat_lt 0 b.counter) (flat_map named_by (s.rows Kind.Ballot ++ option_to_list o)))) in
    record w { prepared = p; aborted = aborted_by w.prepared p w.aborted; armed = k }) (position-armed w k)

pub raise_confirmed_prepared-armed : (s : Seen) (w : Votes) (k : ℕ)
    → raise_confirmed_prepared s (record w { armed = k }) ≡ record (raise_confirmed_prepared s w) { armed = k }
unfolding raise_confirmed_prepared named_ballots
raise_confirmed_prepared-armed s w k = ap {B = Votes} (λ (o : Option Statement).
    record w {
      confirmed_prepared = greatest w.confirmed_prepared (filter (λ t. confirmed s Kind.Ballot o (takes_prepare t))
          (filter (λ b. nat_lt 0 b.counter) (flat_map named_by (s.rows Kind.Ballot ++ option_to_list o))));
      armed = k;
    })
    (position-armed w k)

pub entering-armed : (s : Seen) (w : Votes) (k : ℕ)
    → entering s (position (record w { armed = k })) (record w { armed = k }) ≡ entering s (position w) w
unfolding is_aborted
entering-armed s w k = ap (λ o. entering s o w) (position-armed w k)
