-- Four passes are enough for votes that are fit, the last of which changes nothing. `Settling` and `Stirring` stand on
-- it.
use Rattle.std.proofs.Common.{◌≡◌, ℕ, suc, true, false, Option, Some, None, is_none, is_some, refl, sym, ◌∙◌, ap, subst, inl, inr, ◌⊎◌}
use Rattle.std.proofs.lemmas.Bool.{cases_Bool}
use Rattle.scp_types.specs.declared.ballot.Ballot.{Ballot}
use Rattle.scp_spec.specs.Views.{Seen}
use Rattle.scp_types.specs.declared.state.Phase.{Phase}
use Rattle.scp_types.specs.declared.state.Inputs.{Inputs}
use Rattle.scp_types.specs.declared.state.Votes.{Votes}
use Rattle.scp_spec.specs.Passes.{pass}
use Rattle.scp_spec.specs.Nominating.{nominate}
use Rattle.scp_spec.specs.Balloting.{start}
use Rattle.scp_types.specs.declared.state.Phase.TheVariants.{Preparing, Committing, Externalized}
use Rattle.scp_spec.specs.Sameness.{same_votes}
use Rattle.scp_spec.specs.Nodes.{settle}
use Rattle.scp_spec.proofs.Nodes.Calm.{settle-still}
use Rattle.scp_spec.proofs.Balloting.Tests.{Fair}
use Rattle.scp_spec.proofs.Balloting.Counters.{Risen}
use Rattle.scp_spec.proofs.Balloting.PreparedStays.{Sound}
use Rattle.scp_spec.proofs.Passes.RuleByRule.{ruled, finish, IsOpen, pass-ruled, pass-externalized, ruled-none, finish-none}
use Rattle.scp_spec.proofs.Passes.Ends.{Ends, begins, from-committing, from-preparing}
use Rattle.scp_types.specs.Nominations.{Ascending}
use Rattle.scp_spec.proofs.Nominating.Sets.{nominate-is, nominate-not, NominationRestsAt}
use Rattle.scp_spec.proofs.Nominating.Rests.{sets-rest}
use Rattle.scp_spec.proofs.Passes.OnePass.{stepped}

abbrev pub IsSome : Option Votes → Type 0
IsSome o = is_some o ≡ true

settle-ends : (n : ℕ) (f : Votes → Votes) (w : Votes) → f w ≡ w → IsSome (settle (suc n) f w)
settle-ends n f w e = ap is_some (settle-still n f w e)

settle-more : (n : ℕ) (f : Votes → Votes) (w : Votes) → IsSome (settle n f (f w)) → IsSome (settle (suc n) f w)
unfolding settle
settle-more n f w h = elim (cases_Bool (same_votes (f w) w)) [
  | inl k ↦ rw k refl
  | inr k ↦ rw k h
]

-- nomination is at rest
abbrev pub NominationRests : ℕ → Seen → Inputs → Votes → Type 0
NominationRests v s g w = NominationRestsAt v s g w.voted w.accepts w.confirms ⊎ (is_none w.confirmed_prepared ≡ false)

pub rests-same : (v : ℕ) (s : Seen) (g : Inputs) (w : Votes) → NominationRests v s g w → nominate v s g w ≡ w
rests-same v s g w (inl q) = q w refl refl refl
rests-same v s g w (inr h) = nominate-not v s g w h

rests-on : (v : ℕ) (s : Seen) (g : Inputs) (w y : Votes) → y.voted ≡ w.voted → y.accepts ≡ w.accepts
    → y.confirms ≡ w.confirms → (is_none w.confirmed_prepared ≡ false → is_none y.confirmed_prepared ≡ false)
    → NominationRests v s g w → NominationRests v s g y
rests-on v s g w y a b c d (inl q) = inl (λ u i j k. q u (i ∙ a) (j ∙ b) (k ∙ c))
rests-on v s g w y a b c d (inr h) = inr (d h)

pub phases : (p : Phase) → (p ≡ Externalized) ⊎ ((p ≡ Preparing) ⊎ (p ≡ Committing))
phases Preparing = inr (inl refl)
phases Committing = inr (inr refl)
phases Externalized = inl refl

settle-at : (n : ℕ) (f : Votes → Votes) (w y : Votes) → f w ≡ y → IsSome (settle n f y) → IsSome (settle (suc n) f w)
settle-at n f w y e h = settle-more n f w (subst (λ (x : Votes). IsSome (settle n f x)) (sym e) h)

module _ (v : ℕ) (s : Seen) (f : Fair s) (g : Inputs) where
  -- in COMMIT, where nothing is to be raised: one pass
  one-left : (n : ℕ) (w : Votes) (b : Ballot) → Sound w → NominationRests v s g w → w.phase ≡ Committing → w.ballot ≡ Some b
      → Risen s g b.counter → IsSome (settle (suc (suc n)) (pass v s g) w)
  one-left n w b sound q ph ball risen =
      let r = from-committing v s f g w b ph ball sound in
      let same : pass v s g w ≡ r.0 = pass-ruled v s g w (inr ph)
      ∙ (ap (λ x. finish s g (ruled s x)) (begins v s g w b ball (rests-same v s g w q)) ∙ r.1) in
      let q1 : NominationRests v s g r.0 = rests-on v s g w r.0 r.2.voted r.2.accepts r.2.confirms r.2.stays q in
      settle-at (suc n) (pass v s g) w r.0 same (settle-ends n (pass v s g) r.0 (elim (r.3 risen) [
        | inl k ↦ k (rests-same v s g r.0 q1)
        | inr k ↦ pass-externalized v s g r.0 k
      ]))

  -- in PREPARE: two
  two-left : (n : ℕ) (w : Votes) (b : Ballot) → Sound w → NominationRests v s g w → w.phase ≡ Preparing → w.ballot ≡ Some b
      → Risen s g b.counter → IsSome (settle (suc (suc (suc n))) (pass v s g) w)
  two-left n w b sound q ph ball risen =
      let r = from-preparing v s f g w b ph ball sound in
      let same : pass v s g w ≡ r.0 = pass-ruled v s g w (inl ph)
      ∙ (ap (λ x. finish s g (ruled s x)) (begins v s g w b ball (rests-same v s g w q)) ∙ r.1) in
      let q1 : NominationRests v s g r.0 = rests-on v s g w r.0 r.2.voted r.2.accepts r.2.confirms r.2.stays q in
      settle-at (suc (suc n)) (pass v s g) w r.0 same (elim (r.3 risen) [
        | inl k ↦ settle-ends (suc n) (pass v s g) r.0 (k (rests-same v s g r.0 q1))
        | inr (inl k) ↦ settle-ends (suc n) (pass v s g) r.0 (pass-externalized v s g r.0 k)
        | inr (inr k) ↦ elim r.2.ends [
          | inl e ↦ settle-ends (suc n) (pass v s g) r.0 (pass-externalized v s g r.0 e)
          | inr e ↦ one-left n r.0 e.0 r.2.sound q1 k e.1 e.2
        ]
      ])

-- what the votes of a node have that events lead to
pub record Fit (w : Votes) : Type 0 where
  pub sound : Sound w
  pub ascending : Ascending w.confirms

-- one pass: it stays fit, and nomination is at rest
pub record Once (v : ℕ) (s : Seen) (g : Inputs) (w y : Votes) : Type 0 where
  pub fit : Fit y
  pub rests : NominationRests v s g y
  pub ends : Ends s g y ⊎ ((y.phase ≡ Preparing) × (y.ballot ≡ None) × (start s y ≡ y))

module _ (v : ℕ) (s : Seen) (f : Fair s) (g : Inputs) where
  pub once : (w : Votes) → Fit w → IsOpen w → Once v s g w (pass v s g w)
  once w fit ph =
      let S = stepped v s f g w fit.sound ph in
      elim (cases_Bool (is_none w.confirmed_prepared)) [
        | inr h ↦ record {
          fit = record {
            sound = S.sound;
            ascending =
                subst Ascending
                (sym (S.confirms ∙ ap (λ (x : Votes). x.confirms) (nominate-not v s g w h))) fit.ascending;
          };
          rests = inr (S.stays h);
          ends = S.ends;
        }
        | inl h ↦
            let p = nominate-is v s g w h in
            let m = sets-rest v s f g w.voted w.accepts w.confirms fit.ascending in
            let a = S.voted ∙ ap (λ (x : Votes). x.voted) p in
            let b = S.accepts ∙ ap (λ (x : Votes). x.accepts) p in
            let c = S.confirms ∙ ap (λ (x : Votes). x.confirms) p in
            record {
              fit = record { sound = S.sound; ascending = subst Ascending (sym c) m.0 };
              rests = inl (λ u i j k. m.1 u (i ∙ a) (j ∙ b) (k ∙ c));
              ends = S.ends;
            }
      ]

  pub pass-fit : (w : Votes) → Fit w → Fit (pass v s g w)
  pass-fit w fit = elim (phases w.phase) [
    | inl e ↦ subst Fit (sym (pass-externalized v s g w e)) fit
    | inr ph ↦ (once w fit ph).fit
  ]

  -- four passes, of which the last changes nothing
  pub four : (n : ℕ) (w : Votes) → Fit w → IsSome (settle (suc (suc (suc (suc n)))) (pass v s g) w)
  four n w fit = elim (phases w.phase) [
    | inl e ↦ settle-ends (suc (suc (suc n))) (pass v s g) w (pass-externalized v s g w e)
    | inr ph ↦
        let O = once w fit ph in
        let y = pass v s g w in
        settle-more (suc (suc (suc n))) (pass v s g) w (elim O.ends [
          | inr k ↦ settle-ends (suc (suc n)) (pass v s g) y
              (pass-ruled v s g y (inl k.0)
              ∙ (ap (λ x. finish s g (ruled s (start s x))) (rests-same v s g y O.rests)
              ∙ (ap (λ x. finish s g (ruled s x)) k.2
              ∙ (ap (finish s g) (ruled-none s y k.0 k.1) ∙ finish-none s g y k.1))))
          | inl (inl e) ↦ settle-ends (suc (suc n)) (pass v s g) y (pass-externalized v s g y e)
          | inl (inr e) ↦ elim (phases y.phase) [
            | inl k ↦ settle-ends (suc (suc n)) (pass v s g) y (pass-externalized v s g y k)
            | inr (inl k) ↦ two-left v s f g n y e.0 O.fit.sound O.rests k e.1 e.2
            | inr (inr k) ↦ one-left v s f g (suc n) y e.0 O.fit.sound O.rests k e.1 e.2
          ]
        ])
  ]
