-- Without a roster nothing changes. The law `without_roster_nothing_changes` stands on it.
use Rattle.scp_types.specs.declared.event.Refusal.{Refusal}
use Rattle.std.proofs.Common.{◌≡◌, Bool, Option, Some, None, List, [], ◌++◌, ◌+◌, refl, ◌∙◌, ap, ap₂}
use Rattle.scp_spec.specs.Rosters.{Draw}
use Rattle.scp_spec.specs.Rosters.Source.{OfBudgets}
use Rattle.scp_spec.specs.Networks.{Net, Step, Reply, source, size_of, on_shares, on_opens, effect, tests, tests_on, first_that, with_draw, state_and_reply, net_step}
use Rattle.scp_spec.specs.Networks.Reading.{Fault}
use Rattle.scp_spec.specs.Networks.Step.{Opens, Delivers}
use Rattle.scp_spec.specs.Networks.Reply.{Done}
use Rattle.scp_spec.specs.Hosts.{new_net}
use Rattle.scp_spec.specs.WithoutRoster.{tests_without, counted_without, replied_without, HasNoShares, StepsWithout, StaysWithout}
use Rattle.scp_spec.proofs.Networks.Effects.{next, effect-keeps, left, run-keeps}
use Rattle.scp_spec.proofs.Crowds.Runs.{plus_nothing}

tested : (net : Net) (e : Step) → tests_on net OfBudgets e ≡ tests_without net e
tested net (Delivers u size (Fault n)) = refl
tested net _ = refl

counts : (net : Net) (e : Step) → with_draw OfBudgets (size_of e) net ≡ counted_without e net
counts net e = λ j. record (counted_without e net) { opens = plus_nothing net.opens j }

pub steps_without : StepsWithout
unfolding net_step
steps_without net e h =
    ap (λ (ts : List (Bool × Refusal)). state_and_reply net e (first_that ts))
    (ap (λ o. tests_on net (source o e) e) h ∙ tested net e) ∙ go (first_that (tests_without net e))
  where
    go : (o : Option Refusal) → state_and_reply net e o ≡ replied_without net e o
    go (Some n) = refl
    go None =
        ap {B = Net × Reply} (λ (n : Net). (n, Done (effect net e).1))
        (ap (λ o. with_draw (source o e) (size_of e) (effect net e).0) h ∙ counts (effect net e).0 e)

none_left : (e : Step) (ds : List Draw) → ds ≡ [] → left e ds ≡ []
none_left (Opens i) ds h = ap (left (Opens i)) h
none_left _ ds h = h

stays-applied : (net : Net) (e : Step) → first_that (tests net e) ≡ None → HasNoShares net → HasNoShares (next net e)
stays-applied net e q h =
    let k = effect-keeps net e in
    let s : source net.roster e ≡ OfBudgets = ap (λ o. source o e) h.roster in
    record {
      roster = k.roster ∙ h.roster;
      opens = ap₂ (λ m n. m + n) (k.opens ∙ h.opens) (ap on_opens s);
      draws = ap₂ (λ (xs ys : List Draw). xs ++ ys) (ap (λ z. on_shares z (size_of e)) s)
          (k.draws ∙ none_left e net.draws h.draws);
    }

pub stays_without : StaysWithout
stays_without config before h =
    run-keeps HasNoShares stays-applied before (new_net config) (record { roster = h; opens = refl; draws = refl })
