-- One pass of a sound state: what it leaves as it is, and how it ends. `FourPasses` and `Stirring` stand on it.
use Rattle.std.proofs.Common.{◌≡◌, ℕ, false, List, Option, Some, None, is_none, refl, sym, ◌∙◌, ap, subst, inl, inr, ◌⊎◌}
use Rattle.std.proofs.lemmas.Bool.{cases_Bool}
use Rattle.scp_types.specs.declared.ballot.Ballot.{Ballot}
use Rattle.scp_spec.specs.Views.{Seen}
use Rattle.scp_types.specs.declared.state.Inputs.{Inputs}
use Rattle.scp_types.specs.declared.state.Votes.{Votes}
use Rattle.scp_spec.specs.Candidates.{combine}
use Rattle.scp_spec.specs.Passes.{pass}
use Rattle.scp_spec.specs.Nominating.{nominate}
use Rattle.scp_spec.specs.Balloting.{with_first_ballot, start}
use Rattle.scp_types.specs.declared.state.Phase.TheVariants.{Preparing}
use Rattle.scp_spec.proofs.Balloting.Tests.{Fair}
use Rattle.scp_spec.proofs.Balloting.PreparedStays.{Sound}
use Rattle.scp_spec.proofs.Passes.RuleByRule.{begun, finish, IsOpen, pass-ruled, ruled-none, finish-none}
use Rattle.scp_spec.proofs.Passes.Ends.{Ends, Went, start-some, from-committing, from-preparing}
use Rattle.scp_spec.proofs.Nominating.Sets.{nominate-is, nominate-not}

-- The start
start-is : (s : Seen) (w : Votes) → start s w ≡ record w { ballot = (start s w).ballot }
unfolding start with_first_ballot
start-is s w = go w.ballot (combine w.confirms) refl refl
  where
    go : (o : Option Ballot) (z : Option (List ℕ)) → w.ballot ≡ o → combine w.confirms ≡ z
        → start s w ≡ record w { ballot = (start s w).ballot }
    go (Some b) z e k = rw e refl
    go None (Some x) e k = rw (e, k) refl
    go None None e k = rw (e, k) refl

cases_Option : (o : Option Ballot) → (o ≡ None) ⊎ ((b : Ballot) × (o ≡ Some b))
cases_Option None = inl refl
cases_Option (Some b) = inr (b, refl)

start-none : (s : Seen) (w : Votes) → (start s w).ballot ≡ None → (w.ballot ≡ None) × (start s w ≡ w)
start-none s w e = elim (cases_Option w.ballot) [
  | inl k ↦ (k, start-is s w ∙ (λ i. record w { ballot = (e ∙ sym k) i }))
  | inr k ↦ let z : Some k.0 ≡ None = sym (ap (λ (x : Votes). x.ballot) (start-some s w k.0 k.1) ∙ k.1) ∙ e in
      not_none k.0 z
]
  where
    not_none : {A : Type 0} (b : Ballot) → Some b ≡ None → A
    not_none b e = cc

-- votes that differ from others in the three sets of values alone
pub framed : (w x : Votes) (voted accepts confirms : List (List ℕ))
    → x ≡ record w { voted = voted; accepts = accepts; confirms = confirms }
    → x ≡ record w { voted = x.voted; accepts = x.accepts; confirms = x.confirms }
framed w x voted accepts confirms p =
    p ∙ ap (λ (y : Votes). record w { voted = y.voted; accepts = y.accepts; confirms = y.confirms }) (sym p)

pub nominate-frame : (v : ℕ) (s : Seen) (g : Inputs) (w : Votes)
    → nominate v s g w ≡ record w {
      voted = (nominate v s g w).voted;
      accepts = (nominate v s g w).accepts;
      confirms = (nominate v s g w).confirms;
    }
nominate-frame v s g w = elim (cases_Bool (is_none w.confirmed_prepared)) [
  | inl e ↦ framed w (nominate v s g w) _ _ _ (nominate-is v s g w e)
  | inr e ↦ framed w (nominate v s g w) w.voted w.accepts w.confirms (nominate-not v s g w e)
]

record Begun (v : ℕ) (s : Seen) (g : Inputs) (w x : Votes) : Type 0 where
  sound : Sound x
  phase : x.phase ≡ w.phase
  confirmed_prepared : x.confirmed_prepared ≡ w.confirmed_prepared
  voted : x.voted ≡ (nominate v s g w).voted
  accepts : x.accepts ≡ (nominate v s g w).accepts
  confirms : x.confirms ≡ (nominate v s g w).confirms
  ballot : (b : Ballot) → w.ballot ≡ Some b → x.ballot ≡ Some b

begun-facts : (v : ℕ) (s : Seen) (g : Inputs) (w : Votes) → Sound w → Begun v s g w (begun v s g w)
begun-facts v s g w sound =
    let x = nominate v s g w in
    let f = nominate-frame v s g w in
    let ball : (b : Ballot) → w.ballot ≡ Some b → (start s x).ballot ≡ Some b = λ b e. let k : x.ballot ≡ Some b =
    ap (λ (y : Votes). y.ballot) f ∙ e in ap (λ (y : Votes). y.ballot) (start-some s x b k) ∙ k in
    let whole : start s x ≡ record w {
      voted = x.voted;
      accepts = x.accepts;
      confirms = x.confirms;
      ballot = (start s x).ballot;
    } =
    start-is s x ∙ ap {B = Votes} (λ (y : Votes). record y { ballot = (start s x).ballot }) f in
    subst (λ (y : Votes). Begun v s g w y) (sym whole) (record {
      sound = record {
        aborted = sound.aborted;
        confirmed_prepared = sound.confirmed_prepared;
        committing = λ c. let h = sound.committing c in
            record {
              b = h.b;
              p = h.p;
              ballot = ball h.b h.ballot;
              prepared = h.prepared;
              value = h.value;
              high = h.high;
              low = h.low;
            };
      };
      phase = refl;
      confirmed_prepared = refl;
      voted = refl;
      accepts = refl;
      confirms = refl;
      ballot = ball;
    })

-- One pass of a sound state
pub record Passed (v : ℕ) (s : Seen) (g : Inputs) (w y : Votes) : Type 0 where
  pub sound : Sound y
  pub voted : y.voted ≡ (nominate v s g w).voted
  pub accepts : y.accepts ≡ (nominate v s g w).accepts
  pub confirms : y.confirms ≡ (nominate v s g w).confirms
  pub stays : is_none w.confirmed_prepared ≡ false → is_none y.confirmed_prepared ≡ false
  pub ends : Ends s g y ⊎ ((y.phase ≡ Preparing) × (y.ballot ≡ None) × (start s y ≡ y))

went-step : (v : ℕ) (s : Seen) (g : Inputs) (w x y : Votes) → Begun v s g w x → Went s g x y → Passed v s g w y
went-step v s g w x y B W =
    record {
      sound = W.sound;
      voted = W.voted ∙ B.voted;
      accepts = W.accepts ∙ B.accepts;
      confirms = W.confirms ∙ B.confirms;
      stays = λ h. W.stays (ap is_none B.confirmed_prepared ∙ h);
      ends = inl W.ends;
    }

pub stepped : (v : ℕ) (s : Seen) → Fair s → (g : Inputs) (w : Votes) → Sound w
    → IsOpen w → Passed v s g w (pass v s g w)
stepped v s f g w sound (inr ph) =
    let B = begun-facts v s g w sound in
    let h = sound.committing ph in
    let r = from-committing v s f g (begun v s g w) h.b (B.phase ∙ ph) (B.ballot h.b h.ballot) B.sound in
    subst (λ (y : Votes). Passed v s g w y) (sym (pass-ruled v s g w (inr ph) ∙ r.1))
    (went-step v s g w (begun v s g w) r.0 B r.2)
stepped v s f g w sound (inl ph) =
    let B = begun-facts v s g w sound in
    let x = begun v s g w in
    elim (cases_Option x.ballot) [
      | inr k ↦ let r = from-preparing v s f g x k.0 (B.phase ∙ ph) k.1 B.sound in
          subst (λ (y : Votes). Passed v s g w y) (sym (pass-ruled v s g w (inl ph) ∙ r.1))
          (went-step v s g w x r.0 B r.2)
      | inl k ↦
          let same : pass v s g w ≡ x = pass-ruled v s g w (inl ph)
          ∙ (ap (finish s g) (ruled-none s x (B.phase ∙ ph) k) ∙ finish-none s g x k) in
          subst (λ (y : Votes). Passed v s g w y) (sym same)
          (record {
            sound = B.sound;
            voted = B.voted;
            accepts = B.accepts;
            confirms = B.confirms;
            stays = λ h. ap is_none B.confirmed_prepared ∙ h;
            ends = inr (
              B.phase ∙ ph,
              k,
              let e = (start-none s (nominate v s g w) k).1 in subst (λ (y : Votes). start s y ≡ y) (sym e) e,
            );
          })
    ]
