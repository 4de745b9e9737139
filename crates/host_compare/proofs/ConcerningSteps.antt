-- The submitted steps that concern a set, event after event.
use Rattle.std.proofs.Common.{◌≡◌, ℕ, zero, suc, ◌+◌, ◌<◌, Bool, true, false, ◌&&◌, ◌==◌, Bor, List, [], ◌∷◌, ◌++◌, length, map, filter, cond, get_or, take, slice_get, Some, if◌then◌else◌, refl, sym, ◌∙◌, ap, subst}
use Rattle.std.proofs.lemmas.List.{append-nil, map-append}
use Rattle.std.proofs.lemmas.List.Elements.{filter_more}
use Rattle.scp_types.specs.declared.event.Event.{Event}
use Rattle.scp_spec.specs.Sets.{Names}
use Rattle.scp_spec.specs.Networks.{Step}
use Rattle.scp_spec.specs.Networks.Reading.{Read, Fault}
use Rattle.scp_spec.specs.Networks.Step.{Opens, Closes, Proposes, Delivers, Hears, NominationTimerFires, BallotTimerFires, Reslices}
use Rattle.scp_spec.specs.Submissions.{concerns}
use Rattle.host_network.specs.Decoding.{step_of}
use Rattle.host_compare.specs.Submitted.{concerning_steps_in, concerns_members}
use Rattle.host_journal.specs.Keeping.{IsReadable}

module _ (R : Names) (i g : ℕ) where
  pub steps_at_first : (calls : List (ℕ × Event)) → concerning_steps_in R i g (take 0 calls) ≡ []
  unfolding concerning_steps_in
  steps_at_first calls = refl

  -- ---- one event more
  module _ (calls : List (ℕ × Event)) (k : ℕ) (c : ℕ × Event) (l : k < length calls) (at : c ≡ get_or calls k c) where
    abbrev before : List (ℕ × Event)
    before = filter (concerns_members R i g) (take k calls)

    steps_more : (b : Bool) → concerns_members R i g c ≡ b → concerning_steps_in R i g (take (k + 1) calls) ≡ map (λ (x : ℕ × Event). step_of x.1) (before ++ cond b (c ∷ []) [])
    unfolding concerning_steps_in
    steps_more b is =
        let here : concerns_members R i g (get_or calls k c) ≡ b = ap (concerns_members R i g) (sym at) ∙ is in
        ap (map (λ (x : ℕ × Event). step_of x.1)) (filter_more (concerns_members R i g) calls k c l ∙ (λ j. before ++ cond (here j) (sym at j ∷ []) []))

    pub listed_more : concerns_members R i g c ≡ true → (events : List (Bor Event)) (e : Bor Event) → e.now ≡ c.1 → map (λ (x : Bor Event). step_of x.now) events ≡ concerning_steps_in R i g (take k calls)
        → map (λ (x : Bor Event). step_of x.now) (events ++ e ∷ []) ≡ concerning_steps_in R i g (take (k + 1) calls)
    unfolding concerning_steps_in
    listed_more is events e same was =
        map-append (λ (x : Bor Event). step_of x.now) events (e ∷ []) ∙ (λ j. was j ++ step_of (same j) ∷ []) ∙ sym (steps_more true is ∙ map-append (λ (x : ℕ × Event). step_of x.1) before (c ∷ []))

    pub listed_still : concerns_members R i g c ≡ false → concerning_steps_in R i g (take k calls) ≡ concerning_steps_in R i g (take (k + 1) calls)
    unfolding concerning_steps_in
    listed_still is = sym (steps_more false is ∙ ap (map (λ (x : ℕ × Event). step_of x.1)) (append-nil before))

  -- ---- what they deliver
  readable : (s : Step) → concerns R i s ≡ true → IsReadable s
  readable (Opens j) h = tt
  readable (Closes j) h = tt
  readable (Proposes j u x) h = tt
  readable (Delivers u size (Read e)) h = tt
  readable (Delivers u size (Fault n)) h = cc
  readable (Hears j u from kind k) h = tt
  readable (NominationTimerFires j u r) h = tt
  readable (BallotTimerFires j u n) h = tt
  readable (Reslices j u q) h = tt

  pub are_readable : (calls : List (ℕ × Event)) (k : ℕ) (s : Step) → slice_get (concerning_steps_in R i g calls) k ≡ Some s → IsReadable s
  unfolding concerning_steps_in
  are_readable [] k s e = cc
  are_readable (c ∷ cs) k s e = go (c.0 == g) (concerns R i (step_of c.1)) refl k e (λ n f. are_readable cs n s f)
    where
      go : (a b : Bool) → concerns R i (step_of c.1) ≡ b → (n : ℕ) → slice_get (map (λ (x : ℕ × Event). step_of x.1) (if a && b then c ∷ filter (concerns_members R i g) cs else filter (concerns_members R i g) cs)) n ≡ Some s
          → ((m : ℕ) → slice_get (concerning_steps_in R i g cs) m ≡ Some s → IsReadable s) → IsReadable s
      go true true h zero f ih = let q : step_of c.1 ≡ s = cc in subst IsReadable q (readable (step_of c.1) h)
      go true true h (suc n) f ih = ih n f
      go true false h n f ih = ih n f
      go false b h n f ih = ih n f
