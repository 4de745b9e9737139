-- Which rules an event stirs: nomination rests after one pass, after a ballot row in the first one too; and after a
-- nomination row balloting rests where nomination confirms nothing. The law `rows_stir_their_kind` and the crate
-- `node_core` stand on it.
use Rattle.std.proofs.Common.{◌≡◌, ℕ, zero, suc, Option, Some, if◌then◌else◌, is_none, refl, sym, ◌∙◌, ap, subst, inl, inr}
use Rattle.std.proofs.lemmas.Bool.{cases_Bool}
use Rattle.scp_types.specs.declared.state.Phase.TheVariants.{Externalized}
use Rattle.scp_types.specs.declared.state.Inputs.{Inputs}
use Rattle.scp_types.specs.declared.state.Votes.{Votes}
use Rattle.scp_spec.specs.Views.{Seen}
use Rattle.scp_spec.specs.Rows.{with_row}
use Rattle.scp_spec.specs.Nominating.{nominate}
use Rattle.scp_spec.specs.Passes.{balloted_in, balloting, nominated_in, pass, pass_rules, while_open}
use Rattle.scp_spec.specs.Nodes.{Node, settle, most_passes}
use Rattle.scp_spec.specs.Sameness.{same_values, same_votes}
use Rattle.scp_spec.specs.Stirring.{settle_after, settle_all, settle_ballots, settle_nominations, seen_by, NominationRestsAfterAPass, BallotRowsStirBallots, NominationRowsStirNomination}
use Rattle.scp_spec.proofs.Balloting.ConfirmedAlone.{with_sets, balloted-sets}
use Rattle.scp_spec.proofs.Balloting.FairSight.{seen-fair}
use Rattle.scp_spec.proofs.Nominating.Sets.{new_voted, new_accepts, new_confirms, nominate-is, rests-from}
use Rattle.scp_spec.proofs.Passes.RuleByRule.{IsOpen, open-runs, pass-externalized}
use Rattle.scp_spec.proofs.Balloting.PreparedStays.{Sound}
use Rattle.scp_spec.proofs.Nodes.Calm.{settle-still}
use Rattle.scp_spec.proofs.Nodes.Lawful.{calm-of-events}
use Rattle.scp_spec.proofs.Passes.RowsOfKinds.{nominations-still, ballots-still}
use Rattle.scp_spec.proofs.Passes.RulesOfKinds.{nominate-reads, balloted-reads}
use Rattle.scp_spec.proofs.Equality.Sameness.{same_values-true, same_votes-refl, same_votes-true}
use Rattle.scp_spec.proofs.Passes.FourPasses.{Fit, NominationRests, once, pass-fit, phases, rests-same}
use Rattle.scp_spec.proofs.Passes.Settling.{changed-fit, reached-fit}
use Rattle.scp_spec.proofs.Passes.OnePass.{framed, nominate-frame, stepped}
use Rattle.scp_spec.proofs.Balloting.Tests.{Fair}

-- where nomination changes nothing it is at rest
rests-of : (v : ℕ) (s : Seen) (g : Inputs) (w : Votes) → nominate v s g w ≡ w → NominationRests v s g w
rests-of v s g w same = elim (cases_Bool (is_none w.confirmed_prepared)) [
  | inr e ↦ inr e
  | inl e ↦
      let p = sym (nominate-is v s g w e) ∙ same in
      let a : new_voted v s g w.voted w.confirms ≡ w.voted = ap (λ (x : Votes). x.voted) p in
      let b : new_accepts s (new_voted v s g w.voted w.confirms) w.accepts ≡ w.accepts =
      ap (λ (x : Votes). x.accepts) p in
      let c : new_confirms s (new_voted v s g w.voted w.confirms)
      (new_accepts s (new_voted v s g w.voted w.confirms) w.accepts) w.confirms ≡ w.confirms =
      ap (λ (x : Votes). x.confirms) p in
      let b2 : new_accepts s w.voted w.accepts ≡ w.accepts = subst (λ m. new_accepts s m w.accepts ≡ w.accepts) a b in
      let c1 : new_confirms s w.voted (new_accepts s w.voted w.accepts) w.confirms ≡ w.confirms =
      subst (λ m. new_confirms s m (new_accepts s m w.accepts) w.confirms ≡ w.confirms) a c in
      let c2 : new_confirms s w.voted w.accepts w.confirms ≡ w.confirms =
      subst (λ m. new_confirms s w.voted m w.confirms ≡ w.confirms) b2 c1 in
      inl (rests-from v s g w.voted w.accepts w.confirms a b2 c2)
]

-- a pass is nomination and then balloting
pass-open : (v : ℕ) (s : Seen) (g : Inputs) (w : Votes) → IsOpen w → pass v s g w ≡ balloting s g (nominate v s g w)
unfolding pass pass_rules
pass-open v s g w o = open-runs (pass_rules v s g) w o

balloted-open : (s : Seen) (g : Inputs) (w : Votes) → IsOpen w → balloted_in s g w ≡ balloting s g w
unfolding balloted_in
balloted-open s g w o = open-runs (balloting s g) w o

balloted-over : (s : Seen) (g : Inputs) (w : Votes) → w.phase ≡ Externalized → balloted_in s g w ≡ w
unfolding balloted_in
balloted-over s g w e = ap (λ p. while_open p (balloting s g) w) e

nominated-open : (v : ℕ) (s : Seen) (g : Inputs) (w : Votes) → IsOpen w → nominated_in v s g w ≡ nominate v s g w
unfolding nominated_in
nominated-open v s g w o = open-runs (nominate v s g) w o

nominated-over : (v : ℕ) (s : Seen) (g : Inputs) (w : Votes) → w.phase ≡ Externalized → nominated_in v s g w ≡ w
unfolding nominated_in
nominated-over v s g w e = ap (λ p. while_open p (nominate v s g) w) e

-- nomination leaves the phase
nominate-phase : (v : ℕ) (s : Seen) (g : Inputs) (w : Votes) → (nominate v s g w).phase ≡ w.phase
nominate-phase v s g w = ap (λ (x : Votes). x.phase) (nominate-frame v s g w)

open-nominated : (v : ℕ) (s : Seen) (g : Inputs) (w : Votes) → IsOpen w → IsOpen (nominate v s g w)
open-nominated v s g w (inl e) = inl (nominate-phase v s g w ∙ e)
open-nominated v s g w (inr e) = inr (nominate-phase v s g w ∙ e)

-- it changes the three sets of values alone
nominated-frame : (v : ℕ) (s : Seen) (g : Inputs) (w : Votes)
    → nominated_in v s g w ≡ record w {
      voted = (nominated_in v s g w).voted;
      accepts = (nominated_in v s g w).accepts;
      confirms = (nominated_in v s g w).confirms;
    }
nominated-frame v s g w = elim (phases w.phase) [
  | inl e ↦ framed w (nominated_in v s g w) w.voted w.accepts w.confirms (nominated-over v s g w e)
  | inr o ↦ framed w (nominated_in v s g w) _ _ _ (nominated-open v s g w o ∙ nominate-frame v s g w)
]

-- so a pass is its two parts
pass-parts : (v : ℕ) (s : Seen) (g : Inputs) (w : Votes) → pass v s g w ≡ balloted_in s g (nominated_in v s g w)
pass-parts v s g w = elim (phases w.phase) [
  | inl e ↦ pass-externalized v s g w e ∙ sym (ap (balloted_in s g) (nominated-over v s g w e) ∙ balloted-over s g w e)
  | inr o ↦ pass-open v s g w o
      ∙ sym (ap (balloted_in s g) (nominated-open v s g w o)
      ∙ balloted-open s g (nominate v s g w) (open-nominated v s g w o))
]

-- a pass where nomination is at rest is balloting
pass-rested : (v : ℕ) (s : Seen) (g : Inputs) (w : Votes) → nominated_in v s g w ≡ w → pass v s g w ≡ balloted_in s g w
pass-rested v s g w same = pass-parts v s g w ∙ ap (balloted_in s g) same

rests-nominated : (v : ℕ) (s : Seen) (g : Inputs) (w : Votes) → NominationRests v s g w → nominated_in v s g w ≡ w
rests-nominated v s g w q = elim (phases w.phase) [
  | inl e ↦ nominated-over v s g w e
  | inr o ↦ nominated-open v s g w o ∙ rests-same v s g w q
]

module _ (v : ℕ) (s : Seen) (f : Fair s) (g : Inputs) where
  -- a calm state is so by its parts
  calm-nominated : (w : Votes) → Sound w → pass v s g w ≡ w → nominated_in v s g w ≡ w
  calm-nominated w sound calm = elim (phases w.phase) [
    | inl e ↦ nominated-over v s g w e
    | inr o ↦
        let S = stepped v s f g w sound o in
        let a : (nominate v s g w).voted ≡ w.voted = sym S.voted ∙ ap (λ (x : Votes). x.voted) calm in
        let b : (nominate v s g w).accepts ≡ w.accepts = sym S.accepts ∙ ap (λ (x : Votes). x.accepts) calm in
        let c : (nominate v s g w).confirms ≡ w.confirms = sym S.confirms ∙ ap (λ (x : Votes). x.confirms) calm in
        nominated-open v s g w o
        ∙ (nominate-frame v s g w ∙ (λ i. record w { voted = a i; accepts = b i; confirms = c i }))
  ]

  calm-balloted : (w : Votes) → Sound w → pass v s g w ≡ w → balloted_in s g w ≡ w
  calm-balloted w sound calm = sym (pass-rested v s g w (calm-nominated w sound calm)) ∙ calm

  -- passes where nomination is at rest
  rested-settles : (n : ℕ) (w : Votes) → Fit w → NominationRests v s g w → settle n (pass v s g) w ≡ settle n (balloted_in s g) w
  unfolding settle
  rested-settles zero w fit q = refl
  rested-settles (suc n) w fit q =
      let e = pass-rested v s g w (rests-nominated v s g w q) in
      let next : settle n (pass v s g) (pass v s g w) ≡ settle n (balloted_in s g) (pass v s g w) =
      rested-settles n (pass v s g w) (pass-fit v s f g w fit) (elim (phases w.phase) [
        | inl x ↦ subst (λ (y : Votes). NominationRests v s g y) (sym (pass-externalized v s g w x)) q
        | inr o ↦ (once v s f g w fit o).rests
      ]) in
      ap (λ (o : Option Votes). if same_votes (pass v s g w) w then Some w else o) next
      ∙ ap (λ (y : Votes). if same_votes y w then Some w else settle n (balloted_in s g) y) e

  -- a pass that changed nothing
  same-or : (w y : Votes) (o : Option Votes)
      → (if same_votes y w then Some y else o) ≡ (if same_votes y w then Some w else o)
  same-or w y o = elim (cases_Bool (same_votes y w)) [
    | inl e ↦ rw e (ap {B = Option Votes} Some (same_votes-true y w e))
    | inr e ↦ rw e refl
  ]

  ballots-settle : (w : Votes) → Fit w → NominationRests v s g w → settle_ballots s g w ≡ settle most_passes (pass v s g) w
  unfolding settle_ballots settle_after settle
  ballots-settle w fit q =
      same-or w (balloted_in s g w) (settle 63 (balloted_in s g) (balloted_in s g w)) ∙ sym (rested-settles 64 w fit q)

  over-settles : (w : Votes) → w.phase ≡ Externalized → settle most_passes (pass v s g) w ≡ Some w
  over-settles w e = settle-still 63 (pass v s g) w (pass-externalized v s g w e)

  still-settles : (w y : Votes) → y ≡ w → settle_after s g w y ≡ Some w
  unfolding settle_after
  still-settles w y e =
      ap (λ (y : Votes). if same_votes y w then Some y else settle 63 (balloted_in s g) y) e
      ∙ ap (λ b. if b then Some w else settle 63 (balloted_in s g) w) (same_votes-refl w)

  all-settle : (w : Votes) → Fit w → settle_all v s g w ≡ settle most_passes (pass v s g) w
  unfolding settle_all settle_after settle
  all-settle w fit = elim (phases w.phase) [
    | inl e ↦ still-settles w (pass v s g w) (pass-externalized v s g w e) ∙ sym (over-settles w e)
    | inr o ↦
        same-or w (pass v s g w) (settle 63 (balloted_in s g) (pass v s g w))
        ∙ ap (λ (o : Option Votes). if same_votes (pass v s g w) w then Some w else o)
        (sym (rested-settles 63 (pass v s g w) (pass-fit v s f g w fit) (once v s f g w fit o).rests))
  ]

  all-after : (w : Votes) → Fit w → settle_after s g w (pass v s g w) ≡ settle most_passes (pass v s g) w
  unfolding settle_all
  all-after w fit = all-settle w fit

  over-ballots : (w : Votes) → w.phase ≡ Externalized → settle_ballots s g w ≡ settle most_passes (pass v s g) w
  unfolding settle_ballots
  over-ballots w over = still-settles w (balloted_in s g w) (balloted-over s g w over) ∙ sym (over-settles w over)

  goes-to : (w x : Votes) → pass v s g w ≡ x → settle 63 (pass v s g) x ≡ Some x
      → settle most_passes (pass v s g) w ≡ Some x
  unfolding settle
  goes-to w x made ends = ap (λ (y : Votes). if same_votes y w then Some w else settle 63 (pass v s g) y) made
      ∙ elim (cases_Bool (same_votes x w)) [
        | inl e ↦ ap (λ b. if b then Some w else settle 63 (pass v s g) x) e
            ∙ ap {B = Option Votes} Some (sym (same_votes-true x w e))
        | inr e ↦ ap (λ b. if b then Some w else settle 63 (pass v s g) x) e ∙ ends
      ]

  -- where nomination confirms nothing new balloting is still at rest
  unconfirmed : (w : Votes) → balloted_in s g w ≡ w → (nominated_in v s g w).confirms ≡ w.confirms
      → balloted_in s g (nominated_in v s g w) ≡ nominated_in v s g w
  unconfirmed w rests same =
      let x = nominated_in v s g w in
      let is : x ≡ with_sets x.voted x.accepts w = nominated-frame v s g w
      ∙ (λ i. record w { voted = x.voted; accepts = x.accepts; confirms = same i }) in
      ap (balloted_in s g) is
      ∙ (balloted-sets x.voted x.accepts s g w ∙ (ap (with_sets x.voted x.accepts) rests ∙ sym is))

  unconfirmed-settles : (w : Votes) → Fit w → balloted_in s g w ≡ w → (nominated_in v s g w).confirms ≡ w.confirms
      → settle most_passes (pass v s g) w ≡ Some (nominated_in v s g w)
  unconfirmed-settles w fit rests same =
      let x = nominated_in v s g w in
      let still = unconfirmed w rests same in
      let made : pass v s g w ≡ x = pass-parts v s g w ∙ still in
      elim (phases w.phase) [
        | inl e ↦ over-settles w e ∙ ap {B = Option Votes} Some (sym (nominated-over v s g w e))
        | inr o ↦ goes-to w x made
            (settle-still 62 (pass v s g) x (pass-rested v s g x
            (rests-nominated v s g x (subst (λ (y : Votes). NominationRests v s g y) made (once v s f g w fit o).rests)) ∙ still))
      ]

  nominations-settle : (w : Votes) → Fit w → balloted_in s g w ≡ w
      → settle_nominations v s g w ≡ settle most_passes (pass v s g) w
  unfolding settle_nominations
  nominations-settle w fit rests =
      let x = nominated_in v s g w in
      elim (cases_Bool (same_values x.confirms w.confirms)) [
        | inl e ↦
            ap (λ b. if b then Some x else settle_after s g w (balloted_in s g x)) e
            ∙ sym (unconfirmed-settles w fit rests (same_values-true x.confirms w.confirms e))
        | inr e ↦
            ap (λ b. if b then Some x else settle_after s g w (balloted_in s g x)) e
            ∙ (ap (settle_after s g w) (sym (pass-parts v s g w)) ∙ all-after w fit)
      ]

-- ---- nodes that events lead to
pub nomination_rests_after_a_pass : NominationRestsAfterAPass
nomination_rests_after_a_pass n r e m c =
    all-settle m.name (seen_by m) (seen-fair m.name m.slices m.inputs.leaders m.table) m.inputs m.votes
    (changed-fit n e m (reached-fit r) c)

pub ballot_rows_stir_ballots : BallotRowsStirBallots
ballot_rows_stir_ballots n r e kind reach =
    let m : Node = record n { table = with_row e n.table } in
    let fit = reached-fit r in
    let fair = seen-fair m.name m.slices m.inputs.leaders m.table in
    let old =
    calm-nominated n.name (seen_by n) (seen-fair n.name n.slices n.inputs.leaders n.table) n.inputs n.votes fit.sound
    (calm-of-events r) in
    elim (phases n.votes.phase) [
      | inl over ↦ over-ballots m.name (seen_by m) fair m.inputs m.votes over
      | inr o ↦
          let still : nominate m.name (seen_by m) m.inputs m.votes ≡ m.votes =
          nominate-reads m.name (seen_by m) m.inputs m.votes
          ∙ (ap (λ s. nominate m.name s m.inputs m.votes)
          (nominations-still n.name n.slices n.inputs.leaders n.table e kind reach)
          ∙ (sym (nominate-reads n.name (seen_by n) n.inputs n.votes)
          ∙ (sym (nominated-open n.name (seen_by n) n.inputs n.votes o) ∙ old))) in
          ballots-settle m.name (seen_by m) fair m.inputs m.votes fit
          (rests-of m.name (seen_by m) m.inputs m.votes still)
    ]

pub nomination_rows_stir_nomination : NominationRowsStirNomination
nomination_rows_stir_nomination n r e kind reach =
    let m : Node = record n { table = with_row e n.table } in
    let fit = reached-fit r in
    let fair = seen-fair m.name m.slices m.inputs.leaders m.table in
    let old =
    calm-balloted n.name (seen_by n) (seen-fair n.name n.slices n.inputs.leaders n.table) n.inputs n.votes fit.sound
    (calm-of-events r) in
    let still : balloted_in (seen_by m) m.inputs m.votes ≡ m.votes =
    balloted-reads (seen_by m) m.inputs m.votes
    ∙ (ap (λ s. balloted_in s m.inputs m.votes) (ballots-still n.name n.slices n.inputs.leaders n.table e kind reach)
    ∙ (sym (balloted-reads (seen_by n) n.inputs n.votes) ∙ old)) in
    nominations-settle m.name (seen_by m) fair m.inputs m.votes fit still
