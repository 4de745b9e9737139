-- On what events draw where there is a share for them.
use Rattle.std.proofs.Common.{◌≡◌, ℕ, true, Some, if◌then◌else◌, ◌&&◌, sym, ◌∙◌, ap}
use Rattle.scp_spec.specs.Rosters.{Roster}
use Rattle.scp_spec.specs.Rosters.Share.{Own as OwnShare, Pair as PairShare}
use Rattle.scp_spec.specs.Rosters.Source.{OfBudgets, OfShare}
use Rattle.scp_spec.specs.Sets.{among}
use Rattle.host_config.specs.Configs.{index_of_name}
use Rattle.host_network.specs.Deeds.{IsDrawn, IsSlotThere, own_source, pair_source}
use Rattle.host_network.specs.Standing.{IsStanding, FiledMachine, machine_of}
use Rattle.host_network.specs.declared.plan.Drawn.TheVariants.{Own, Pair}
use Rattle.host_network.specs.declared.plan.Spot.{Spot}
use Rattle.host_network.proofs.Plans.{instance-there}

-- a node's own events
pub own-on : (m : FiledMachine) (i u : ℕ) (at : Spot) (r : Roster) → IsStanding m → IsSlotThere m i at.slot_at → index_of_name m.config.nodes u ≡ Some at.node_at → m.config.roster ≡ Some r → among r.names u ≡ true → IsDrawn (machine_of m) (Own at) (own_source m.config.roster i u)
own-on m i u at r st a b q t =
    let y = instance-there (machine_of m) i u at.slot_at at.node_at st.tidy a b in (
      r,
      y.0,
      y.1,
      q,
      y.2,
      y.3,
      ap (λ o. own_source o i u) q ∙ ap (λ b. if b then OfShare r.shares i (OwnShare u) else OfBudgets) t ∙ (λ j. OfShare r.shares (sym y.4 j) (OwnShare (sym y.5 j))),
    )

-- what comes to a node from a name
pub pair-on : (m : FiledMachine) (i u w : ℕ) (at : Spot) (r : Roster) → IsStanding m → IsSlotThere m i at.slot_at → index_of_name m.config.nodes u ≡ Some at.node_at → m.config.roster ≡ Some r → (among r.names u && among r.names w) ≡ true → IsDrawn (machine_of m) (Pair at w) (pair_source m.config.roster i u w)
pair-on m i u w at r st a b q t =
    let y = instance-there (machine_of m) i u at.slot_at at.node_at st.tidy a b in (
      r,
      y.0,
      y.1,
      q,
      y.2,
      y.3,
      ap (λ o. pair_source o i u w) q ∙ ap (λ b. if b then OfShare r.shares i (PairShare u w) else OfBudgets) t ∙ (λ j. OfShare r.shares (sym y.4 j) (PairShare (sym y.5 j) w)),
    )
