-- Submissions: what was submitted to a network, refused steps too. Nobody crowds out the members of a closure that its
-- roster holds.
use Rattle.std.specs.Prelude.{◌≡◌, ℕ, Bool, true, ◌==◌, List, [], ◌∷◌, Option, Some, None, filter, map, length, if◌then◌else◌, is_some, IsTrue}
use Rattle.scp_types.specs.Statements.{Sent}
use Rattle.scp_spec.specs.Sets.{Names, among, AreWithin}
use Rattle.scp_spec.specs.Rosters.{Roster}
use Rattle.scp_spec.specs.Networks.{Reading, Step, Net, Reply, slices_of, net_step}
use Rattle.scp_spec.specs.Networks.Reading.{Read}
use Rattle.scp_spec.specs.Networks.Step.{Opens, Closes, Proposes, Delivers, Hears, NominationTimerFires, BallotTimerFires, Reslices}
use Rattle.scp_spec.specs.Hosts.{Config, History, new_net, nets, journal, host_run, nodes_of, steps_of, entries}
use Rattle.scp_spec.specs.Isolation.{kept_step, closure, outs_of, SameCast}

-- ---- what was submitted
-- a submitted step, with its reply
pub record Answer : Type 0 where
  pub step : Step
  pub reply : Reply

-- all that is submitted to a network, with its replies
unfoldable pub net_run : Net → List Step → List Answer
net_run net [] = []
net_run net (e ∷ es) = record { step = e; reply = (net_step net e).1 } ∷ net_run (net_step net e).0 es

-- the steps of one network of a host, with their replies
unfoldable pub answers_of : ℕ → List (ℕ × Step) → List Reply → List Answer
answers_of g [] rs = []
answers_of g (c ∷ cs) [] = []
answers_of g (c ∷ cs) (r ∷ rs) =
    if c.0 == g then record { step = c.1; reply = r } ∷ answers_of g cs rs else answers_of g cs rs

-- all that a history submits to one network, with its replies
abbrev pub answers : (List ℕ → Reading) → History → ℕ → List Answer
answers decode h g = answers_of g (steps_of decode h.calls) (host_run (nets h.configs) (steps_of decode h.calls))

-- a step concerns a set at a slot if it would be kept, were it applied; so does each opening and closing of any slot
abbrev pub concerns : Names → ℕ → Step → Bool
concerns R i (Opens j) = true
concerns R i (Closes j) = true
concerns R i (Proposes j u x) = is_some (kept_step R i (Proposes j u x))
concerns R i (Delivers u size d) = is_some (kept_step R i (Delivers u size d))
concerns R i (Hears j u from kind k) = is_some (kept_step R i (Hears j u from kind k))
concerns R i (NominationTimerFires j u r) = is_some (kept_step R i (NominationTimerFires j u r))
concerns R i (BallotTimerFires j u n) = is_some (kept_step R i (BallotTimerFires j u n))
concerns R i (Reslices j u q) = is_some (kept_step R i (Reslices j u q))

-- what concerns a set at a slot, of all that was submitted
abbrev pub concerning_answers : Names → ℕ → List Answer → List Answer
concerning_answers R i xs = filter (λ x. concerns R i x.step) xs

-- these steps, in order
abbrev pub concerning_steps : Names → ℕ → List Answer → List Step
concerning_steps R i xs = map (λ x. x.step) (concerning_answers R i xs)

-- the replies to the submitted steps that concern a set at a slot
abbrev pub replied_to : Names → ℕ → List Answer → List Reply
replied_to R i xs = map (λ x. x.reply) (concerning_answers R i xs)

-- ---- rosters
-- a network as it is configured; none if it is not there
abbrev pub config_of : List Config → ℕ → Option Config
config_of [] g = None
config_of (c ∷ cs) g = if c.number == g then Some c else config_of cs g

-- both have a roster, with the same names and equal shares
abbrev pub SameRoster : Option Roster → Option Roster → Type 0
SameRoster (Some one) (Some other) = ((u : ℕ) → among one.names u ≡ among other.names u) × (one.shares ≡ other.shares)
SameRoster (Some one) None = ⊥
SameRoster None other = ⊥

-- both networks have the same roster with equal shares, and equal budgets of open slots
abbrev pub SameReserves : Option Config → Option Config → Type 0
SameReserves (Some one) (Some other) = SameRoster one.roster other.roster × (one.budgets.slots ≡ other.budgets.slots)
SameReserves (Some one) None = ⊥
SameReserves None other = ⊥

-- the names of a roster
abbrev pub names_on : Option Roster → List ℕ
names_on None = []
names_on (Some r) = r.names

-- the names of a network's roster
abbrev pub roster_names : Option Config → List ℕ
roster_names None = []
roster_names (Some c) = names_on c.roster

-- ---- the theorem
-- Take two host histories, and the closure of v in the first. It has the same hosted members with the same slices in
-- both, and lies in the roster. Both networks have one roster with equal shares, and equal budgets of open slots. The
-- submitted steps that concern the closure are the same in order. Then so are their replies, refusals included, and
-- each hosted member gives out the same in both. It holds for every decoder of envelopes.
abbrev pub MembersAreNeverCrowdedOut : Type 0
MembersAreNeverCrowdedOut = (decode : List ℕ → Reading) (one other : History) (g i v : ℕ) →
    let R = closure (nodes_of one.configs g) i v (entries decode one g) in
    SameCast R v (nodes_of one.configs g) (nodes_of other.configs g)
    → SameReserves (config_of one.configs g) (config_of other.configs g)
    → AreWithin R (among (roster_names (config_of one.configs g)))
    → concerning_steps R i (answers decode one g) ≡ concerning_steps R i (answers decode other g)
    → (replied_to R i (answers decode one g) ≡ replied_to R i (answers decode other g))
    × ((u : ℕ) → IsTrue (R u) → IsTrue (is_some (slices_of (nodes_of one.configs g) u))
    → outs_of i u (entries decode one g) ≡ outs_of i u (entries decode other g))

-- Members are never crowded out of two networks either, each of its own configuration, whatever is submitted to each of
-- them.
abbrev pub MembersOfRunsAreNeverCrowdedOut : Type 0
MembersOfRunsAreNeverCrowdedOut = (one other : Config) (es fs : List Step) (i v : ℕ) →
    let R = closure one.nodes i v (journal (new_net one) es) in
    SameCast R v one.nodes other.nodes
    → SameReserves (Some one) (Some other)
    → AreWithin R (among (names_on one.roster))
    → concerning_steps R i (net_run (new_net one) es) ≡ concerning_steps R i (net_run (new_net other) fs)
    → (replied_to R i (net_run (new_net one) es) ≡ replied_to R i (net_run (new_net other) fs))
    × ((u : ℕ) → IsTrue (R u) → outs_of i u (journal (new_net one) es) ≡ outs_of i u (journal (new_net other) fs))

-- ---- lengths follow from envelopes
-- all spellings of an envelope have one length
abbrev pub HasOneLength : (List ℕ → Reading) → Type 0
HasOneLength decode = (a b : List ℕ) (e : Sent) → decode a ≡ Read e → decode b ≡ Read e → length a ≡ length b

-- a step without the length of what it delivers
abbrev pub without_size : Step → Step
without_size (Opens j) = Opens j
without_size (Closes j) = Closes j
without_size (Proposes j u x) = Proposes j u x
without_size (Delivers u size d) = Delivers u 0 d
without_size (Hears j u from kind k) = Hears j u from kind k
without_size (NominationTimerFires j u r) = NominationTimerFires j u r
without_size (BallotTimerFires j u n) = BallotTimerFires j u n
without_size (Reslices j u q) = Reslices j u q

-- if all spellings of an envelope have one length, submitted steps that are the same but for lengths are the same
abbrev pub LengthsFollow : Type 0
LengthsFollow = (decode : List ℕ → Reading) → HasOneLength decode → (one other : History) (g i : ℕ) (R : Names)
    → map without_size (concerning_steps R i (answers decode one g))
    ≡ map without_size (concerning_steps R i (answers decode other g))
    → concerning_steps R i (answers decode one g) ≡ concerning_steps R i (answers decode other g)
