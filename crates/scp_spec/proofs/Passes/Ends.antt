-- What passes lead to: after three passes with nomination at rest, one more changes nothing. `Sending` stands on it.
use Rattle.std.proofs.Common.{◌≡◌, ℕ, false, Some, None, is_none, refl, sym, ◌∙◌, ap, subst, inl, inr, ◌⊎◌}
use Rattle.scp_types.specs.declared.ballot.Ballot.{Ballot}
use Rattle.scp_spec.specs.Views.{Seen}
use Rattle.scp_types.specs.declared.state.Inputs.{Inputs}
use Rattle.scp_types.specs.declared.state.Votes.{Votes}
use Rattle.scp_spec.specs.States.{position}
use Rattle.scp_spec.specs.Candidates.{greatest}
use Rattle.scp_spec.specs.Nominating.{nominate}
use Rattle.scp_spec.specs.Balloting.{start, accept_prepared, raise_confirmed_prepared, follow_confirmed_prepared, set_commit, accept_commit, confirm_commit, with_first_ballot}
use Rattle.scp_spec.specs.Passes.{arm, pass, while_open}
use Rattle.scp_types.specs.declared.state.Phase.TheVariants.{Preparing, Committing, Externalized}
use Rattle.scp_spec.proofs.Balloting.Tests.{Fair}
use Rattle.scp_spec.proofs.Balloting.Counters.{position-armed, Risen, risen-up, arm-moves, arm-still}
use Rattle.scp_spec.proofs.Balloting.Moves.{fixed-unread, follow_confirmed_prepared-still, set_commit-still}
use Rattle.scp_spec.proofs.Balloting.PreparedStays.{Sound, Ready, ready}
use Rattle.scp_spec.proofs.Balloting.EntersCommit.{entering, enter_not, enters}
use Rattle.scp_spec.proofs.Balloting.Decides.{deciding, decide_not, decides}
use Rattle.scp_spec.proofs.Balloting.CommittedStays.{widening, widen_not, Steady, steady}
use Rattle.scp_spec.proofs.Passes.RuleByRule.{r2, r3, r4, r5, ruled, tail, begun, finish, IsOpen, open-runs, pass-ruled, r4-at, r5-at, r23-preparing, r234-committing, counts-on, has_counter-still, own-counts, accept_prepared-armed, raise_confirmed_prepared-armed, entering-armed}
use Rattle.std.proofs.lemmas.Option.{same_Some}

-- one more pass changes nothing, if nomination does not
abbrev pub Rests : ℕ → Seen → Inputs → Votes → Type 0
Rests v s g w = nominate v s g w ≡ w → pass v s g w ≡ w

abbrev pub Ends : Seen → Inputs → Votes → Type 0
Ends s g y = (y.phase ≡ Externalized) ⊎ ((n : Ballot) × (y.ballot ≡ Some n) × Risen s g n.counter)

-- from where a pass begins (b is there) to its end
pub record Went (s : Seen) (g : Inputs) (w y : Votes) : Type 0 where
  pub sound : Sound y
  pub voted : y.voted ≡ w.voted
  pub accepts : y.accepts ≡ w.accepts
  pub confirms : y.confirms ≡ w.confirms
  pub stays : is_none w.confirmed_prepared ≡ false → is_none y.confirmed_prepared ≡ false
  pub ends : Ends s g y

pub start-some : (s : Seen) (w : Votes) (b : Ballot) → w.ballot ≡ Some b → start s w ≡ w
unfolding start with_first_ballot
start-some s w b e = rw e refl

confirm-none : (s : Seen) (b : Ballot) (w : Votes) → confirm_commit Preparing s b w ≡ w
unfolding confirm_commit
confirm-none s b w = refl

finish-open : (s : Seen) (g : Inputs) (w : Votes) → IsOpen w → finish s g w ≡ tail s g w
finish-open s g w o = open-runs (tail s g) w o

finish-externalized : (s : Seen) (g : Inputs) (w : Votes) → w.phase ≡ Externalized → finish s g w ≡ w
finish-externalized s g w p = ap (λ q. while_open q (tail s g) w) p

pub begins : (v : ℕ) (s : Seen) (g : Inputs) (w : Votes) (b : Ballot) → w.ballot ≡ Some b → nominate v s g w ≡ w
    → begun v s g w ≡ w
begins v s g w b e n = ap (start s) n ∙ start-some s w b e

-- a state rests, once it is armed, where whatever is armed the rules leave it and nothing is to be raised
rests-armed : (v : ℕ) (s : Seen) → Fair s → (g : Inputs) (n : Ballot) (u : Votes) → IsOpen u → u.ballot ≡ Some n
    → Risen s g n.counter → ((k : ℕ) → ruled s (record u { armed = k }) ≡ record u { armed = k })
    → Rests v s g (arm s n u)
rests-armed v s f g n u o ball risen all =
    let a = arm-moves s n u in
    let y : Votes = record u { armed = a.0 } in
    let still : arm s n y ≡ y = subst (λ (x : Votes). arm s n x ≡ x) a.1 (arm-still s n u) in
    let end : finish s g y ≡ y = finish-open s g y o
    ∙ (has_counter-still s f g y n ball (own-counts y n o ball) risen ∙ still) in
    subst (λ (x : Votes). Rests v s g x) (sym a.1)
    (λ m. pass-ruled v s g y o
    ∙ (ap (λ x. finish s g (ruled s x)) (begins v s g y n ball m) ∙ (ap (finish s g) (all a.0) ∙ end)))

-- what a rule that does not read what is armed leaves as it is, it leaves whatever is armed
armed-still : (f : Votes → Votes) (u : Votes) (k : ℕ) → f (record u { armed = k }) ≡ record (f u) { armed = k }
    → f u ≡ u → f (record u { armed = k }) ≡ record u { armed = k }
armed-still f u k e h = e ∙ ap {B = Votes} (λ (x : Votes). record x { armed = k }) h

-- the state after the rules in PREPARE
rests-preparing : (v : ℕ) (s : Seen) → Fair s → (g : Inputs) (b : Ballot) (w : Votes) (R : Ready s b w)
    → greatest None (entering s (position R.u) R.u) ≡ None → Risen s g R.n.counter → Rests v s g (arm s R.n R.u)
rests-preparing v s f g b w R none risen = rests-armed v s f g R.n R.u (inl R.phase) R.ballot risen all
  where
    all : (k : ℕ) → ruled s (record R.u { armed = k }) ≡ record R.u { armed = k }
    all k =
        let y : Votes = record R.u { armed = k } in
        let e2 = armed-still (accept_prepared s R.n) R.u k (accept_prepared-armed s R.n R.u k) R.still_p in
        let e3 = armed-still (raise_confirmed_prepared s) R.u k (raise_confirmed_prepared-armed s R.u k) R.still_h in
        let e4 : follow_confirmed_prepared R.n y ≡ y = follow_confirmed_prepared-still R.n y R.ballot R.above_h in
        let e5 : set_commit y ≡ y = set_commit-still y R.u.commit refl
        (fixed-unread R.u R.u.commit R.u.commit k R.fixed) in
        let e6 : r4 s y ≡ y = r4-at s y R.n Preparing R.phase R.ballot
        ∙ enter_not s R.n y (ap (greatest None) (entering-armed s R.u k) ∙ none) in
        let e7 : r5 s y ≡ y = r5-at s y R.n Preparing R.phase R.ballot ∙ confirm-none s R.n y in
        let e23 : r3 s (r2 s y) ≡ y = r23-preparing s y R.n R.phase R.ballot
        ∙ (ap (λ x. set_commit (follow_confirmed_prepared R.n (raise_confirmed_prepared s x))) e2
        ∙ (ap (λ x. set_commit (follow_confirmed_prepared R.n x)) e3 ∙ (ap set_commit e4 ∙ e5))) in
        ap (λ x. r5 s (r4 s x)) e23 ∙ (ap (r5 s) e6 ∙ e7)

-- and in COMMIT
rests-committing : (v : ℕ) (s : Seen) → Fair s → (g : Inputs) (b : Ballot) (w : Votes) (R : Steady s b w)
    → greatest None (deciding s (position R.u) R.n) ≡ None → Risen s g R.n.counter → Rests v s g (arm s R.n R.u)
rests-committing v s f g b w R none risen = rests-armed v s f g R.n R.u (inr R.phase) R.ballot risen all
  where
    all : (k : ℕ) → ruled s (record R.u { armed = k }) ≡ record R.u { armed = k }
    all k =
        let y : Votes = record R.u { armed = k } in
        let e2 = armed-still (accept_prepared s R.n) R.u k (accept_prepared-armed s R.n R.u k) R.still_p in
        let e6 : accept_commit Committing s R.n y ≡ y =
        widen_not s R.n y (ap (λ o. greatest None (widening s o R.n R.u.high)) (position-armed R.u k) ∙ R.still_c) in
        let e7 : r5 s y ≡ y = r5-at s y R.n Committing R.phase R.ballot
        ∙ decide_not s R.n y (ap (λ o. greatest None (deciding s o R.n)) (position-armed R.u k) ∙ none) in
        ap (r5 s) (r234-committing s y R.n R.phase R.ballot ∙ (ap (λ x. accept_commit Committing s R.n x) e2 ∙ e6)) ∙ e7

-- to where the counters are counted
went-counted : (s : Seen) (f : Fair s) (g : Inputs) (w : Votes) (b : Ballot) (e : w.ballot ≡ Some b) (sound : Sound w)
    → Went s g w (counts-on s f g w b e sound).u
went-counted s f g w b e sound =
    let C = counts-on s f g w b e sound in
    record {
      sound = C.sound;
      voted = C.voted;
      accepts = C.accepts;
      confirms = C.confirms;
      stays = λ h. ap is_none C.confirmed_prepared ∙ h;
      ends = inr (C.n, C.ballot, C.risen);
    }

-- the end of a pass in COMMIT
closes : (s : Seen) → Fair s → (g : Inputs) (x : Votes) (n : Ballot) → x.phase ≡ Committing → x.ballot ≡ Some n
    → Sound x
    → Went s g x (finish s g (r5 s x))
    × (((finish s g (r5 s x)).phase ≡ Externalized)
    ⊎ (((finish s g (r5 s x)).phase ≡ Committing) × (greatest None (deciding s (position x) n) ≡ None)
    × (finish s g (r5 s x) ≡ tail s g x)))
closes s f g x n ph ball sound = elim (decides s n x sound) [
  | inl e ↦
      let same : r5 s x ≡ x = r5-at s x n Committing ph ball ∙ decide_not s n x e in
      let fin : finish s g (r5 s x) ≡ tail s g x = ap (finish s g) same ∙ finish-open s g x (inr ph) in
      let C = counts-on s f g x n ball sound in
      let q : C.u ≡ finish s g (r5 s x) = sym (fin ∙ C.is) in (
        subst (λ (y : Votes). Went s g x y) q
            (went-counted s f g x n ball sound),
        inr (ap (λ (y : Votes). y.phase) (sym q) ∙ (C.phase ∙ ph), e, fin),
      )
  | inr D ↦
      let same : r5 s x ≡ D.u = r5-at s x n Committing ph ball ∙ D.is in
      let q : D.u ≡ finish s g (r5 s x) = sym (ap (finish s g) same ∙ finish-externalized s g D.u D.phase) in (
        subst (λ (y : Votes). Went s g x y) q
            (record {
              sound = D.sound;
              voted = D.voted;
              accepts = D.accepts;
              confirms = D.confirms;
              stays = λ h. ap is_none D.confirmed_prepared ∙ h;
              ends = inl D.phase;
            }),
        inl (ap (λ (y : Votes). y.phase) (sym q) ∙ D.phase),
      )
]

went-on : (s : Seen) (g : Inputs) (w x y : Votes) → x.voted ≡ w.voted → x.accepts ≡ w.accepts → x.confirms ≡ w.confirms
    → (is_none w.confirmed_prepared ≡ false → is_none x.confirmed_prepared ≡ false) → Went s g x y → Went s g w y
went-on s g w x y a b c d r =
    record {
      sound = r.sound;
      voted = r.voted ∙ a;
      accepts = r.accepts ∙ b;
      confirms = r.confirms ∙ c;
      stays = λ h. r.stays (d h);
      ends = r.ends;
    }

-- the rest of a pass in COMMIT: where nothing is to be raised, it then rests
pub from-committing : (v : ℕ) (s : Seen) → Fair s → (g : Inputs) (w : Votes) (b : Ballot) → w.phase ≡ Committing
    → w.ballot ≡ Some b → Sound w
    → (y : Votes) × (finish s g (ruled s w) ≡ y) × Went s g w y
    × (Risen s g b.counter → Rests v s g y ⊎ (y.phase ≡ Externalized))
from-committing v s f g w b ph ball sound =
    let h = sound.committing ph in
    let hb : h.b ≡ b = same_Some h.b b (sym h.ballot ∙ ball) in
    let R = steady s f w b h.p ph ball h.prepared (h.value ∙ ap (λ (x : Ballot). x.value) hb) h.high h.low sound in
    let e : ruled s w ≡ r5 s R.u = ap (r5 s) (r234-committing s w b ph ball ∙ R.is) in
    let c = closes s f g R.u R.n R.phase R.ballot R.sound in (
      finish s g (r5 s R.u),
      ap (finish s g) e,
      went-on s g w R.u (finish s g (r5 s R.u)) R.voted R.accepts R.confirms
          (λ k. ap is_none R.confirmed_prepared ∙ k) c.0,
      λ risen. let up = risen-up s f g b.counter R.n.counter R.grows risen in elim c.1 [
        | inl k ↦ inr k
        | inr k ↦ inl
            (subst (λ (x : Votes). Rests v s g x)
            (sym (k.2 ∙ has_counter-still s f g R.u R.n R.ballot (own-counts R.u R.n (inr R.phase) R.ballot) up))
            (rests-committing v s f g b w R k.1 up))
      ],
    )

-- the same in PREPARE, where it may go on to COMMIT
pub from-preparing : (v : ℕ) (s : Seen) → Fair s → (g : Inputs) (w : Votes) (b : Ballot) → w.phase ≡ Preparing
    → w.ballot ≡ Some b → Sound w
    → (y : Votes) × (finish s g (ruled s w) ≡ y) × Went s g w y
    × (Risen s g b.counter → Rests v s g y ⊎ ((y.phase ≡ Externalized) ⊎ (y.phase ≡ Committing)))
from-preparing v s f g w b ph ball sound =
    let R = ready s f b w ph ball sound in
    let e : ruled s w ≡ r5 s (r4 s R.u) = ap (λ x. r5 s (r4 s x)) (r23-preparing s w b ph ball ∙ R.is) in
    elim (enters s R.n R.u R.sound) [
      | inl none ↦
          let e4 : r4 s R.u ≡ R.u = r4-at s R.u R.n Preparing R.phase R.ballot ∙ enter_not s R.n R.u none in
          let e5 : r5 s R.u ≡ R.u = r5-at s R.u R.n Preparing R.phase R.ballot ∙ confirm-none s R.n R.u in
          let fin : finish s g (ruled s w) ≡ tail s g R.u = ap (finish s g) (e ∙ (ap (r5 s) e4 ∙ e5))
          ∙ finish-open s g R.u (inl R.phase) in
          let C = counts-on s f g R.u R.n R.ballot R.sound in (
            C.u,
            fin ∙ C.is,
            went-on s g w R.u C.u R.voted R.accepts R.confirms R.stays (went-counted s f g R.u R.n R.ballot R.sound),
            λ risen. let up = risen-up s f g b.counter R.n.counter R.grows risen in
                inl (subst (λ (x : Votes). Rests v s g x)
                (sym (has_counter-still s f g R.u R.n R.ballot (own-counts R.u R.n (inl R.phase) R.ballot) up) ∙ C.is)
                (rests-preparing v s f g b w R none up)),
          )
      | inr E ↦
          let e4 : r4 s R.u ≡ E.u = r4-at s R.u R.n Preparing R.phase R.ballot ∙ E.is in
          let c = closes s f g E.u E.n E.phase E.ballot E.sound in (
            finish s g (r5 s E.u),
            ap (finish s g) (e ∙ ap (r5 s) e4),
            went-on s g w E.u (finish s g (r5 s E.u)) (E.voted ∙ R.voted) (E.accepts ∙ R.accepts)
                (E.confirms ∙ R.confirms) (λ k. E.stays) c.0,
            λ risen. elim c.1 [
              | inl k ↦ inr (inl k)
              | inr k ↦ inr (inr k.0)
            ],
          )
    ]
