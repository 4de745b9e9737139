-- Where all spellings of an envelope have one length, submitted steps that are the same but for lengths are the same.
-- The law `lengths_follow_from_envelopes` stands on it.
use Rattle.scp_types.specs.declared.event.Event.{Event}
use Rattle.scp_types.specs.declared.event.Event.TheVariants.{Deliver}
use Rattle.std.proofs.Common.{◌≡◌, ℕ, Bool, true, false, ◌==◌, Option, Some, None, List, [], ◌∷◌, map, length, cond, if◌then◌else◌, refl, sym, ◌∙◌, ap, ap₂}
use Rattle.std.specs.List.{AllByRecursion}
use Rattle.std.proofs.lemmas.Bool.{false≢true}
use Rattle.scp_types.specs.Statements.{Sent}
use Rattle.scp_spec.specs.Sets.{Names}
use Rattle.scp_spec.specs.Networks.{Reading, Step, Reply, step_of_event, size_of}
use Rattle.scp_spec.specs.Networks.Reading.{Read, Fault}
use Rattle.scp_spec.specs.Networks.Step.{Delivers}
use Rattle.scp_spec.specs.Hosts.{nets, host_run, steps_of}
use Rattle.scp_spec.specs.Submissions.{Answer, answers_of, concerns, concerning_answers, answers, HasOneLength, without_size, LengthsFollow}

-- a delivery that concerns the set is what some bytes are read as
abbrev IsRead : (List ℕ → Reading) → Step → Type 0
IsRead decode (Delivers u size d) = (bytes : List ℕ) × ((size ≡ length bytes) × (decode bytes ≡ d))
IsRead decode _ = Unit {0}

is_read : (decode : List ℕ → Reading) (e : Event) → IsRead decode (step_of_event decode e)
is_read decode (Deliver u bytes) = (bytes, (refl, refl))
is_read decode _ = tt

-- so it is for all that concerns it
abbrev AreRead : (List ℕ → Reading) → Names → ℕ → List Answer → Type 0
AreRead decode R i xs =
    AllByRecursion (λ (x : Answer). IsRead decode x.step × (concerns R i x.step ≡ true)) (concerning_answers R i xs)

are_read : (decode : List ℕ → Reading) (R : Names) (i g : ℕ) (calls : List (ℕ × Event)) (rs : List Reply)
    → AreRead decode R i (answers_of g (steps_of decode calls) rs)
unfolding answers_of
are_read decode R i g [] rs = tt
are_read decode R i g (c ∷ cs) [] = tt
are_read decode R i g (c ∷ cs) (r ∷ rs) = go (c.0 == g) (are_read decode R i g cs rs)
  where
    rest : List Answer
    rest = answers_of g (steps_of decode cs) rs

    more : (b : Bool) → concerns R i (step_of_event decode c.1) ≡ b → AreRead decode R i rest
        → AllByRecursion (λ (x : Answer). IsRead decode x.step × (concerns R i x.step ≡ true))
        (cond b (record { step = step_of_event decode c.1; reply = r } ∷ concerning_answers R i rest) (concerning_answers R i rest))
    more true e h = ((is_read decode c.1, e), h)
    more false e h = h

    go : (b : Bool) → AreRead decode R i rest
        → AreRead decode R i (if b then record { step = step_of_event decode c.1; reply = r } ∷ rest else rest)
    go true h = more (concerns R i (step_of_event decode c.1)) refl h
    go false h = h

-- ---- a step is what it is without its length, and its length
resized : ℕ → Step → Step
resized n (Delivers u size d) = Delivers u n d
resized n e = e

resized-back : (e : Step) → resized (size_of e) (without_size e) ≡ e
unfolding resized
resized-back (Delivers u size d) = refl
resized-back _ = refl

-- the envelope that it delivers
envelope_of : Step → Option Sent
envelope_of (Delivers u size (Read e)) = Some e
envelope_of _ = None

envelope-unsized : (e : Step) → envelope_of (without_size e) ≡ envelope_of e
unfolding envelope_of
envelope-unsized (Delivers u size (Read e)) = refl
envelope-unsized _ = refl

module _ (decode : List ℕ → Reading) (R : Names) (i : ℕ) where
  abbrev Known : Step → Type 0
  Known e = IsRead decode e × (concerns R i e ≡ true)

  -- it has the length of some bytes that are read as its envelope, or none
  length_known : (e : Step) → Known e → (x : Sent) → envelope_of e ≡ Some x
      → (bytes : List ℕ) × ((size_of e ≡ length bytes) × (decode bytes ≡ Read x))
  unfolding envelope_of
  length_known (Delivers u size (Read e)) h x q =
      let m : e ≡ x = cc in (h.0.0, (h.0.1.0, h.0.1.1 ∙ ap {B = Reading} Read m))
  length_known _ h x q = cc

  no_length : (e : Step) → Known e → envelope_of e ≡ None → size_of e ≡ 0
  unfolding envelope_of
  no_length (Delivers u size (Read e)) h q = cc
  no_length (Delivers u size (Fault n)) h q = absurd (false≢true h.1)
  no_length _ h q = refl

  module _ (lengths : HasOneLength decode) where
    one_step : (e f : Step) → Known e → Known f → without_size e ≡ without_size f → e ≡ f
    one_step e f a b h = sym (resized-back e) ∙ (ap₂ resized (go (envelope_of e) refl) h ∙ resized-back f)
      where
        same : envelope_of e ≡ envelope_of f
        same = sym (envelope-unsized e) ∙ (ap envelope_of h ∙ envelope-unsized f)

        go : (o : Option Sent) → envelope_of e ≡ o → size_of e ≡ size_of f
        go None q = no_length e a q ∙ sym (no_length f b (sym same ∙ q))
        go (Some x) q =
            let m = length_known e a x q in
            let n = length_known f b x (sym same ∙ q) in
            m.1.0 ∙ (lengths m.0 n.0 x m.1.1 n.1.1 ∙ sym n.1.0)

    one_list : (xs ys : List Answer) → AllByRecursion (λ (x : Answer). Known x.step) xs
        → AllByRecursion (λ (x : Answer). Known x.step) ys
        → map without_size (map (λ x. x.step) xs) ≡ map without_size (map (λ x. x.step) ys)
        → map (λ x. x.step) xs ≡ map (λ x. x.step) ys
    one_list [] [] a b h = refl
    one_list [] (y ∷ ys) a b h = cc
    one_list (x ∷ xs) [] a b h = cc
    one_list (x ∷ xs) (y ∷ ys) a b h =
        let first : without_size x.step ≡ without_size y.step = cc in
        let rest : map without_size (map (λ x. x.step) xs) ≡ map without_size (map (λ x. x.step) ys) = cc in
        ap₂ (λ (e : Step) (es : List Step). e ∷ es) (one_step x.step y.step a.0 b.0 first) (one_list xs ys a.1 b.1 rest)

pub lengths_follow : LengthsFollow
lengths_follow decode lengths one other g i R h =
    one_list decode R i lengths (concerning_answers R i (answers decode one g)) (concerning_answers R i (answers decode other g))
    (are_read decode R i g one.calls (host_run (nets one.configs) (steps_of decode one.calls)))
    (are_read decode R i g other.calls (host_run (nets other.configs) (steps_of decode other.calls))) h
