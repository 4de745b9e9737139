-- A step that doesn't concern R draws nothing that R sees, and is not kept. `Members` and `Runs` stand on it.
use Rattle.std.proofs.Common.{◌≡◌, ℕ, Bool, true, false, ◌&&◌, ◌==◌, Option, Some, None, List, ◌++◌, filter, if◌then◌else◌, is_some, refl, ◌∙◌, ap}
use Rattle.std.proofs.lemmas.Bool.{true≢false}
use Rattle.scp_spec.specs.Sets.{Names}
use Rattle.scp_spec.specs.Rosters.{Roster, Share, Source, Draw, is_on, share_or_budgets}
use Rattle.scp_spec.specs.Rosters.Share.{Own, Pair}
use Rattle.scp_spec.specs.Rosters.Source.{OfBudgets, OfShare}
use Rattle.scp_spec.specs.Networks.{Step, source, size_of, on_shares, on_opens}
use Rattle.scp_spec.specs.Networks.Reading.{Read, Fault}
use Rattle.scp_spec.specs.Networks.Step.{Opens, Closes, Proposes, Delivers, Hears, NominationTimerFires, BallotTimerFires, Reslices}
use Rattle.scp_spec.specs.Isolation.{KeptStep, kept_step}
use Rattle.scp_spec.specs.Submissions.{concerns}
use Rattle.scp_spec.proofs.Networks.Effects.{opened_after, left}
use Rattle.scp_spec.proofs.Crowds.Concerned.{kept-false}
use Rattle.scp_spec.proofs.Sets.Tests.{and_joined}
use Rattle.scp_spec.proofs.Crowds.Views.{is_ours, of_members}

module _ (R : Names) (i : ℕ) where
  -- it draws neither on a member's share nor on openings
  record IsElsewhere (s : Source) : Type 0 where
    draws : (size : ℕ) (ds : List Draw) → filter (is_ours R i) (on_shares s size ++ ds) ≡ filter (is_ours R i) ds
    opens : on_opens s ≡ 0

  of_budgets : IsElsewhere OfBudgets
  of_budgets = record { draws = λ size ds. refl; opens = refl }

  of_others : (r : Roster) (j : ℕ) (s : Share) → ((j == i) && of_members R s) ≡ false
      → IsElsewhere (share_or_budgets r j s)
  of_others r j s o = go (is_on r.names s)
    where
      go : (b : Bool) → IsElsewhere (if b then OfShare r.shares j s else OfBudgets)
      go true = record { draws = λ size ds. rw o refl; opens = refl }
      go false = of_budgets

  others-source : (roster : Option Roster) (e : Step) → concerns R i e ≡ false → IsElsewhere (source roster e)
  others-source None e c = of_budgets
  others-source (Some r) (Opens j) c = absurd (true≢false c)
  others-source (Some r) (Closes j) c = absurd (true≢false c)
  others-source (Some r) (Proposes j u x) c = of_others r j (Own u) (kept-false ((j == i) && R u) _ c)
  others-source (Some r) (Delivers u size (Fault n)) c = of_budgets
  others-source (Some r) (Delivers u size (Read e)) c =
      of_others r e.slot (Pair u e.sender)
      (and_joined (e.slot == i) (R u) (R e.sender) ∙ kept-false ((e.slot == i) && R u && R e.sender) _ c)
  others-source (Some r) (Hears j u from kind n) c =
      of_others r j (Pair u from) (and_joined (j == i) (R u) (R from) ∙ kept-false ((j == i) && R u && R from) _ c)
  others-source (Some r) (NominationTimerFires j u n) c = of_others r j (Own u) (kept-false ((j == i) && R u) _ c)
  others-source (Some r) (BallotTimerFires j u n) c = of_others r j (Own u) (kept-false ((j == i) && R u) _ c)
  others-source (Some r) (Reslices j u q) c = of_others r j (Own u) (kept-false ((j == i) && R u) _ c)

  -- nor does it open or close
  others-leave : (e : Step) → concerns R i e ≡ false → (ds : List Draw) → left e ds ≡ ds
  others-leave (Opens j) c ds = absurd (true≢false c)
  others-leave _ c ds = refl

  pub others-left : (roster : Option Roster) (e : Step) → concerns R i e ≡ false → (ds : List Draw)
      → filter (is_ours R i) (on_shares (source roster e) (size_of e) ++ left e ds) ≡ filter (is_ours R i) ds
  others-left roster e c ds = (others-source roster e c).draws (size_of e) (left e ds)
      ∙ ap (filter (is_ours R i)) (others-leave e c ds)

  pub others-opens : (roster : Option Roster) (e : Step) → concerns R i e ≡ false → on_opens (source roster e) ≡ 0
  others-opens roster e c = (others-source roster e c).opens

  pub others-numbers : (e : Step) → concerns R i e ≡ false → (ns : List ℕ) → opened_after e ns ≡ ns
  others-numbers (Opens j) c ns = absurd (true≢false c)
  others-numbers (Closes j) c ns = absurd (true≢false c)
  others-numbers _ c ns = refl

  unkept : (o : Option KeptStep) → is_some o ≡ false → o ≡ None
  unkept None h = refl
  unkept (Some k) h = absurd (true≢false h)

  pub others-kept : (e : Step) → concerns R i e ≡ false → kept_step R i e ≡ None
  others-kept (Opens j) c = absurd (true≢false c)
  others-kept (Closes j) c = absurd (true≢false c)
  others-kept e c = unkept (kept_step R i e) c
