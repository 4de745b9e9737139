-- What a comparison of two submissions to one network answers.
use Rattle.std.specs.Prelude.{◌≡◌, ℕ, ◌<◌, List, Option, IsTrue, IsFalse}
use Rattle.scp_spec.specs.Sets.{Names, among, AreWithin}
use Rattle.scp_spec.specs.Networks.{HostedNode, Reading, Reply}
use Rattle.scp_spec.specs.Hosts.{Config, Entry, History, nodes_of, entries}
use Rattle.scp_spec.specs.Isolation.{closure, SameCast}
use Rattle.scp_spec.specs.Verdicts.{IsFirstUnlike, IsFirstDifference}
use Rattle.scp_spec.specs.Submissions.{Answer, answers, concerning_steps, replied_to, config_of, SameReserves, roster_names}

-- The casts differ at a node. Or a roster is missing, or the rosters, their shares or the budgets of open slots differ.
-- Or the closure leaves the roster at a node. Or the submitted steps that concern the closure differ at a place. Or all
-- is the same, with the replies.
pub data Crowd : Type 0 where
  CastDiffers : ℕ → Crowd
  RosterDiffers : Crowd
  OutsideRoster : ℕ → Crowd
  InputsDiffer : ℕ → Crowd
  Same : List Reply → Crowd

-- the least member of the set that is not on the roster
pub record IsFirstOutside (R : Names) (names : List ℕ) (u : ℕ) : Type 0 where
  pub member : IsTrue (R u)
  pub outside : IsFalse (among names u)
  pub least : (w : ℕ) → IsTrue (R w) → w < u → IsTrue (among names w)

-- The answer on two networks, by their configurations, the journal of the first and what was submitted to each of them.
-- It is the first that applies, in this order.
abbrev pub IsCrowdOf : List HostedNode → List HostedNode → Option Config → Option Config → List Entry → List Answer
    → List Answer
    → ℕ → ℕ → Crowd → Type 0
IsCrowdOf one other config configs run xs ys i v (CastDiffers u) = IsFirstUnlike (closure one i v run) v one other u
IsCrowdOf one other config configs run xs ys i v RosterDiffers =
    SameCast (closure one i v run) v one other × (SameReserves config configs → ⊥)
IsCrowdOf one other config configs run xs ys i v (OutsideRoster u) =
    SameCast (closure one i v run) v one other
    × (SameReserves config configs × IsFirstOutside (closure one i v run) (roster_names config) u)
IsCrowdOf one other config configs run xs ys i v (InputsDiffer place) =
    let R = closure one i v run in
    SameCast R v one other
    × (SameReserves config configs ×
    (AreWithin R (among (roster_names config))
    × IsFirstDifference (concerning_steps R i xs) (concerning_steps R i ys) place))
IsCrowdOf one other config configs run xs ys i v (Same replies) =
    let R = closure one i v run in
    SameCast R v one other
    × (SameReserves config configs
    × (AreWithin R (among (roster_names config))
    × ((concerning_steps R i xs ≡ concerning_steps R i ys)
    × ((replies ≡ replied_to R i xs) × (replies ≡ replied_to R i ys)))))

-- the answer on one network in two histories
abbrev pub IsCrowd : (List ℕ → Reading) → History → History → ℕ → ℕ → ℕ → Crowd → Type 0
IsCrowd decode one other g i v crowd =
    IsCrowdOf (nodes_of one.configs g) (nodes_of other.configs g) (config_of one.configs g) (config_of other.configs g)
    (entries decode one g) (answers decode one g) (answers decode other g) i v crowd

-- every two submissions have an answer
abbrev pub CrowdsExist : Type 0
CrowdsExist =
    (decode : List ℕ → Reading) (one other : History) (g i v : ℕ) → (c : Crowd) × IsCrowd decode one other g i v c

-- every two submissions have only one answer
abbrev pub CrowdsAreUnique : Type 0
CrowdsAreUnique = (decode : List ℕ → Reading) (one other : History) (g i v : ℕ) (a b : Crowd)
    → IsCrowd decode one other g i v a → IsCrowd decode one other g i v b → a ≡ b
