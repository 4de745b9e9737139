-- Rosters, computed from the definitions.
use Rattle.std.proofs.Common.{◌≡◌, ◌<◌, ℕ, zero, suc, true, false, ◌==◌, Some, List, [], ◌∷◌, map, refl, inl, inr, arith, flat_map, ◌++◌}
use Rattle.std.proofs.lemmas.Bool.{or_cases, or_left, or_right, eqb-true, false≢true}
use Rattle.scp_types.specs.declared.statement.Statement.TheVariants.{Prepare}
use Rattle.scp_types.specs.declared.event.Event.{Event}
use Rattle.scp_types.specs.declared.event.Event.TheVariants.{OpenSlot, Deliver}
use Rattle.scp_types.specs.declared.event.Refusal.TheVariants.{NoSuchNode, SlotNotOpen, JournalFull, BytesFull, ShareFull, ShareBytesFull}
use Rattle.scp_spec.specs.Sets.{among}
use Rattle.scp_spec.specs.Rosters.{Shares}
use Rattle.scp_spec.specs.Networks.{Reading, Step, HostedNode}
use Rattle.scp_spec.specs.Networks.Reading.{Read, Fault}
use Rattle.scp_spec.specs.Networks.Step.{Opens, Closes, NominationTimerFires, Reslices}
use Rattle.scp_spec.specs.Networks.Reply.{Done, Refused}
use Rattle.scp_spec.specs.Hosts.{Config, History, entries}
use Rattle.scp_spec.specs.Isolation.{closure, kept_of, outs_of, node_rule, announcement_rules}
use Rattle.scp_spec.specs.Verdicts.{IsFirstDifference}
use Rattle.scp_spec.specs.Submissions.{answers_of}
use Rattle.scp_spec.specs.Crowds.{IsCrowd}
use Rattle.scp_spec.specs.Crowds.Crowd.{CastDiffers, RosterDiffers, OutsideRoster, InputsDiffer, Same}
use Rattle.scp_spec.proofs.Verdicts.OfCrowds.{closure_in}
use Rattle.scp_spec.proofs.Sets.RuleLists.{least-in}
use Rattle.scp_spec.proofs.Worked.Everything.{everything}
use Rattle.scp_spec.proofs.Worked.Letters.{A, B, C, D, Z, m, at, just, two_of_bcd, by, to_A, one_net, hosted_with, replies}

-- ---- a network of A with a roster, and strangers
abbrev X : ℕ
X = 88

abbrev Y : ℕ
Y = 89

abbrev shares : ℕ → ℕ → Shares
shares pair bytes = record { own = 10; pair = pair; bytes = bytes; opens = 4 }

abbrev of_A : ℕ → List ℕ → Shares → List Config
of_A slots names shares =
    record {
      number = 1;
      nodes = hosted_with A two_of_bcd ∷ [];
      budgets = record { events = 100; bytes = 208; slots = slots };
      roster = Some (record { names = names; shares = shares });
    } ∷ []

abbrev abcd : List ℕ
abcd = A ∷ B ∷ C ∷ D ∷ []

abbrev from : ℕ → Step
from u = to_A u (just u) (Prepare (at 9 m) (Some (at 9 m)) 6 0 0)

-- strangers use up the bytes of the budget, and still B's envelope has its own
pub strangers_use_up_budgets : replies (of_A 1 abcd (shares 10 1000)) (Opens 1 ∷ from Y ∷ from Z ∷ from X ∷ from B ∷ [])
    ≡ Done [] ∷ Done [] ∷ Done [] ∷ Refused BytesFull ∷ Done [] ∷ []
unfolding everything
strangers_use_up_budgets = refl

-- each pair has so many events for each opening of the slot
pub pair_is_used_up : replies (of_A 1 abcd (shares 1 1000))
    (Opens 1 ∷ from B ∷ from B ∷ Closes 1 ∷ Opens 1 ∷ from B ∷ [])
    ≡ Done [] ∷ Done [] ∷ Refused ShareFull ∷ Done [] ∷ Done [] ∷ Done [] ∷ []
unfolding everything
pair_is_used_up = refl

-- and so many bytes
pub bytes_are_used_up : replies (of_A 1 abcd (shares 10 103)) (Opens 1 ∷ from B ∷ [])
    ≡ Done [] ∷ Refused ShareBytesFull ∷ []
unfolding everything
bytes_are_used_up = refl

-- openings and closings have their own events over the network's life, a node's timers its own; a step without a share
-- draws on the
-- budgets, and no other one does
abbrev narrow : List Config
narrow = record {
  number = 1;
  nodes = hosted_with A two_of_bcd ∷ [];
  budgets = record { events = 0; bytes = 0; slots = 1 };
  roster = Some (record { names = abcd; shares = record { own = 1; pair = 1; bytes = 104; opens = 3 } });
} ∷ []

pub each_draws_on_its_own : replies narrow
    (Opens 1 ∷ NominationTimerFires 1 A 1 ∷ NominationTimerFires 1 A 1 ∷ from Z ∷ from B ∷ Closes 1 ∷ Opens 1 ∷ NominationTimerFires 1 A 1 ∷ Closes 1 ∷ [])
    ≡ Done [] ∷ Done [] ∷ Refused ShareFull ∷ Refused JournalFull ∷ Done [] ∷ Done [] ∷ Done [] ∷ Done []
    ∷ Refused ShareFull ∷ []
unfolding everything
each_draws_on_its_own = refl

-- new slices draw on the node's own share, as its timers do; name and slot are tested before that
pub new_slices_draw_on_their_own : replies narrow
    (Opens 1 ∷ Reslices 1 Z (just A) ∷ Reslices 2 A (just A) ∷ Reslices 1 A (just B) ∷ Reslices 1 A
    (just C) ∷ NominationTimerFires 1 A 1 ∷ [])
    ≡ Done [] ∷ Refused NoSuchNode ∷ Refused SlotNotOpen ∷ Done [] ∷ Refused ShareFull ∷ Refused ShareFull ∷ []
unfolding everything
new_slices_draw_on_their_own = refl

-- ---- submissions, for a decoder that reads the sender from the first byte
abbrev padded : ℕ → List ℕ
padded zero = []
padded (suc n) = 0 ∷ padded n

abbrev decode : List ℕ → Reading
decode [] = Fault 1
decode (u ∷ rest) = Read (by u (just u) (Prepare (at 9 m) (Some (at 9 m)) 6 0 0))

abbrev submitted : List Config → List Event → History
submitted configs events = record { configs = configs; calls = map (λ e. (1, e)) events }

abbrev delivered : ℕ → Event
delivered u = Deliver A (u ∷ padded 103)

abbrev crowded : List Config → History
crowded configs = submitted configs (OpenSlot 1 ∷ delivered Y ∷ delivered Z ∷ delivered X ∷ delivered B ∷ [])

abbrev quiet : List Config → History
quiet configs = submitted configs (OpenSlot 1 ∷ delivered B ∷ [])

abbrev with_roster : List ℕ → List Config
with_roster names = of_A 1 names (shares 10 1000)

abbrev few : List Config
few = one_net (hosted_with A two_of_bcd ∷ []) (record { events = 100; bytes = 208; slots = 1 })

abbrev nodes : List HostedNode
nodes = hosted_with A two_of_bcd ∷ []

-- A's closure holds A, B, C and D, and strangers deliver to A without being in it
in_abcd : (u : ℕ) → closure_in decode (crowded (with_roster abcd)) 1 1 A u ≡ true → among abcd u ≡ true
unfolding everything closure
in_abcd u h =
    least-in (map node_rule nodes ++ flat_map (λ x. announcement_rules 1 x.event)
    (entries decode (crowded (with_roster abcd)) 1)) A (among abcd) refl refl u h

pub strangers_crowd_nobody_out : IsCrowd decode (crowded (with_roster abcd)) (quiet (with_roster abcd)) 1 1 A
    (Same (Done [] ∷ Done [] ∷ []))
unfolding everything closure answers_of
strangers_crowd_nobody_out =
    (record { hosted = refl; same = λ u r. refl }, ((((λ u. refl), refl), refl), (in_abcd, (refl, (refl, refl)))))

-- the same journals compared: the same is kept, and A gives out nothing in both
pub strangers_are_not_kept : kept_of (closure_in decode (crowded (with_roster abcd)) 1 1 A) 1
    (entries decode (crowded (with_roster abcd)) 1)
    ≡ kept_of (closure_in decode (crowded (with_roster abcd)) 1 1 A) 1 (entries decode (quiet (with_roster abcd)) 1)
unfolding everything closure kept_of
strangers_are_not_kept = refl

pub nothing_is_given_out : outs_of 1 A (entries decode (crowded (with_roster abcd)) 1) ≡ []
unfolding everything outs_of
nothing_is_given_out = refl

-- without a roster B's envelope is refused where strangers came first, so that the runs keep other steps
pub strangers_crowd_out_without_roster : IsFirstDifference
    (kept_of (closure_in decode (crowded few) 1 1 A) 1 (entries decode (crowded few) 1))
    (kept_of (closure_in decode (crowded few) 1 1 A) 1 (entries decode (quiet few) 1)) 1
unfolding everything closure kept_of
strangers_crowd_out_without_roster = record { before = refl; there = λ q. cc }

-- a member that the roster lacks
abbrev abc : List ℕ
abc = A ∷ B ∷ C ∷ []

in_abcd_too : (u : ℕ) → closure_in decode (crowded (with_roster abc)) 1 1 A u ≡ true → among abcd u ≡ true
unfolding everything closure
in_abcd_too u h =
    least-in (map node_rule nodes ++ flat_map (λ x. announcement_rules 1 x.event)
    (entries decode (crowded (with_roster abc)) 1)) A (among abcd) refl refl u h

below_D : (w : ℕ) → among abcd w ≡ true → w < D → among abc w ≡ true
below_D w h l = elim (or_cases (A == w) (among (B ∷ C ∷ D ∷ []) w) h) [
  | inl e ↦ or_left (A == w) (among (B ∷ C ∷ []) w) e
  | inr r ↦ or_right (A == w) (among (B ∷ C ∷ []) w) (elim (or_cases (B == w) (among (C ∷ D ∷ []) w) r) [
    | inl e ↦ or_left (B == w) (among (C ∷ []) w) e
    | inr r ↦ or_right (B == w) (among (C ∷ []) w) (elim (or_cases (C == w) (among (D ∷ []) w) r) [
      | inl e ↦ or_left (C == w) false e
      | inr r ↦ elim
          (or_cases (D == w) false r) [
            | inl e ↦ absurd (let q = eqb-true D w e in omega (arith, l, q))
            | inr r ↦ absurd
                (false≢true r)
          ]
    ])
  ])
]

pub roster_lacks_a_member : IsCrowd decode (crowded (with_roster abc)) (quiet (with_roster abc)) 1 1 A (OutsideRoster D)
unfolding everything closure answers_of
roster_lacks_a_member = (
  record { hosted = refl; same = λ u r. refl },
  (
    (((λ u. refl), refl), refl),
    record {
      member = refl;
      outside = refl;
      least = λ w r l. below_D w (in_abcd_too w r) l;
    },
  ),
)

-- another budget of open slots
pub rosters_differ : IsCrowd decode (crowded (with_roster abcd))
    (quiet (of_A 2 abcd (shares 10 1000))) 1 1 A RosterDiffers
unfolding everything closure answers_of
rosters_differ = (record { hosted = refl; same = λ u r. refl }, λ h. let e : 1 ≡ 2 = h.1 in omega (arith, e))

-- what B sends is missing in the one
pub inputs_differ : IsCrowd decode (crowded (with_roster abcd)) (submitted (with_roster abcd) (OpenSlot 1 ∷ [])) 1 1 A
    (InputsDiffer 1)
unfolding everything closure answers_of
inputs_differ = (
  record { hosted = refl; same = λ u r. refl },
  ((((λ u. refl), refl), refl), (in_abcd, record { before = refl; there = λ q. cc })),
)

-- without a roster there is nothing to compare
pub no_roster : IsCrowd decode (crowded few) (quiet few) 1 1 A RosterDiffers
unfolding everything closure answers_of
no_roster = (record { hosted = refl; same = λ u r. refl }, λ h. h.0)

-- who is not hosted has no answer but that
pub not_hosted : IsCrowd decode (crowded (with_roster abcd)) (quiet (with_roster abcd)) 1 1 B (CastDiffers B)
not_hosted = inl (refl, refl)
