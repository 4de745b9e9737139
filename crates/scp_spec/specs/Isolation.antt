-- Isolation: the closure of a run, what of a run concerns it, and that nothing else changes what its members do.
use Rattle.scp_types.specs.declared.event.NodeEvent.{NodeEvent}
use Rattle.scp_types.specs.declared.event.Out.{Out}
use Rattle.std.specs.Prelude.{◌≡◌, ℕ, Bool, true, false, ◌&&◌, ◌==◌, List, [], ◌∷◌, ◌++◌, Option, Some, None, filter_map, flat_map, map, if◌then◌else◌, is_some, IsTrue}
use Rattle.std.specs.List.{Contains}
use Rattle.scp_types.specs.declared.kind.Kind.{Kind}
use Rattle.scp_spec.specs.Sets.{Names}
use Rattle.scp_spec.specs.Satisfaction.{names}
use Rattle.scp_spec.specs.Closures.{Rule, in_least}
use Rattle.scp_types.specs.declared.event.NodeEvent.TheVariants.{Propose, Take, NominationTimer, BallotTimer, Reslice}
use Rattle.scp_spec.specs.Networks.{HostedNode, Reading, Step, slices_of}
use Rattle.scp_spec.specs.Networks.Reading.{Read, Fault}
use Rattle.scp_spec.specs.Networks.Step.{Opens, Closes, Proposes, Delivers, Hears, NominationTimerFires, BallotTimerFires, Reslices}
use Rattle.scp_spec.specs.Hosts.{Entry, History, nodes_of, entries}

-- ---- the closure of a run
-- if a hosted node is in, so are the names of its configured slices
abbrev pub node_rule : HostedNode → Rule
node_rule h = record { sources = h.name ∷ []; gives = names h.slices }

-- If receiver and sender of a delivery at the slot are in, so are the names that it announces. If a node that is given
-- slices at the slot is in, so are the names of these. No other step gives a rule; a Hear announces nothing new.
abbrev pub announcement_rules : ℕ → Step → List Rule
announcement_rules i (Delivers u size (Read e)) =
    if e.slot == i then record { sources = u ∷ e.sender ∷ []; gives = names e.slices } ∷ [] else []
announcement_rules i (Reslices j u q) = if j == i then record { sources = u ∷ []; gives = names q } ∷ [] else []
announcement_rules i _ = []

-- the least set that contains v and keeps the rules of the hosted nodes, and of deliveries and new slices at the slot
unfoldable pub closure : List HostedNode → ℕ → ℕ → List Entry → Names
closure nodes i v run = in_least (map node_rule nodes ++ flat_map (λ x. announcement_rules i x.event) run) v

-- ---- kept steps
-- what is kept of a step: of a Hear not what it hands over
pub data KeptStep : Type 0 where
  Opening : KeptStep
  Closing : KeptStep
  EventAt : ℕ → NodeEvent → KeptStep
  Hearing : ℕ → ℕ → Kind → ℕ → KeptStep

-- a step is kept if the test holds
abbrev pub when_kept : Bool → KeptStep → Option KeptStep
when_kept true k = Some k
when_kept false k = None

-- What is kept of a step at the slot: its opening and closing, and members' proposals, timers and new slices.
-- Deliveries and Hears are kept if both receiver and sender are members.
abbrev pub kept_step : Names → ℕ → Step → Option KeptStep
kept_step R i (Opens j) = when_kept (j == i) Opening
kept_step R i (Closes j) = when_kept (j == i) Closing
kept_step R i (Proposes j u x) = when_kept ((j == i) && R u) (EventAt u (Propose x))
kept_step R i (Delivers u size (Read e)) = when_kept ((e.slot == i) && R u && R e.sender) (EventAt u (Take e))
kept_step R i (Delivers u size (Fault n)) = None
kept_step R i (Hears j u from kind k) = when_kept ((j == i) && R u && R from) (Hearing u from kind k)
kept_step R i (NominationTimerFires j u r) = when_kept ((j == i) && R u) (EventAt u (NominationTimer r))
kept_step R i (BallotTimerFires j u n) = when_kept ((j == i) && R u) (EventAt u (BallotTimer n))
kept_step R i (Reslices j u q) = when_kept ((j == i) && R u) (EventAt u (Reslice q))

-- the kept steps of a run, in order
unfoldable pub kept_of : Names → ℕ → List Entry → List KeptStep
kept_of R i run = filter_map (λ x. kept_step R i x.event) run

-- ---- what a node gave out
-- the event is one of this node at this slot
abbrev pub is_of : ℕ → ℕ → Step → Bool
is_of i u (Opens j) = false
is_of i u (Closes j) = false
is_of i u (Proposes j w x) = (j == i) && (w == u)
is_of i u (Delivers w size (Read e)) = (e.slot == i) && (w == u)
is_of i u (Delivers w size (Fault n)) = false
is_of i u (Hears j w from kind k) = (j == i) && (w == u)
is_of i u (NominationTimerFires j w r) = (j == i) && (w == u)
is_of i u (BallotTimerFires j w n) = (j == i) && (w == u)
is_of i u (Reslices j w q) = (j == i) && (w == u)

-- all that a node gave out at a slot, in order, over all openings of the slot
unfoldable pub outs_of : ℕ → ℕ → List Entry → List Out
outs_of i u run = flat_map (λ x. if is_of i u x.event then x.outs else []) run

-- ---- the theorem
-- both worlds host the same members, with the same slices by their configurations, and the first hosts v
pub record SameCast (R : Names) (v : ℕ) (one other : List HostedNode) : Type 0 where
  pub hosted : IsTrue (is_some (slices_of one v))
  pub same : (u : ℕ) → IsTrue (R u) → slices_of one u ≡ slices_of other u

-- Take any two host histories, whatever networks, strangers and interleavings they hold. Both host the same members of
-- the closure of v in the first, with the same slices. The kept steps of that closure are the same in both. Then each
-- hosted member gives out the same in both. It holds for every decoder of envelopes, and so for the codec's.
abbrev pub Isolation : Type 0
Isolation = (decode : List ℕ → Reading) (one other : History) (g i v : ℕ) →
    let R = closure (nodes_of one.configs g) i v (entries decode one g) in
    SameCast R v (nodes_of one.configs g) (nodes_of other.configs g)
    → kept_of R i (entries decode one g) ≡ kept_of R i (entries decode other g)
    → (u : ℕ) → IsTrue (R u) → IsTrue (is_some (slices_of (nodes_of one.configs g) u))
    → outs_of i u (entries decode one g) ≡ outs_of i u (entries decode other g)

-- ---- the closure in the second world
-- no name is hosted twice: each hosted node is the one that its name finds
abbrev pub AreNamedOnce : List HostedNode → Type 0
AreNamedOnce nodes = (h : HostedNode) → Contains nodes h → slices_of nodes h.name ≡ Some h.slices

-- The casts are the same, no name is hosted twice in either, and the kept steps are the same. Then the closure of v is
-- the same set of names in both worlds. Their entries may be any: those of two runs, or of a network in two histories.
abbrev pub SameClosures : Type 0
SameClosures =
    (one other : List HostedNode) (runs others : List Entry) (i v : ℕ) → AreNamedOnce one → AreNamedOnce other →
    let R = closure one i v runs in
    SameCast R v one other → kept_of R i runs ≡ kept_of R i others
    → (u : ℕ) → closure other i v others u ≡ R u
