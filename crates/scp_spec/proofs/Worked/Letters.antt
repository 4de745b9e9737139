-- What the worked examples are told in: letters for names and values, small slices, envelopes and networks.
use Rattle.std.proofs.Common.{ℕ, Bool, None, List, [], ◌∷◌, map}
use Rattle.scp_types.specs.Trees.{Slices, node, none}
use Rattle.scp_types.specs.Statements.{Sent}
use Rattle.scp_types.specs.declared.ballot.Ballot.{Ballot}
use Rattle.scp_types.specs.declared.statement.Statement.{Statement}
use Rattle.scp_spec.specs.Networks.Step.{Delivers}
use Rattle.scp_spec.specs.Networks.{Step, HostedNode, Budgets, Reply}
use Rattle.scp_spec.specs.Networks.Reading.{Read}
use Rattle.scp_spec.specs.Hosts.{Config, Entry, new_net, nets, journal, host_run}
use Rattle.scp_spec.specs.Isolation.{closure}

-- ---- names
abbrev pub A : ℕ
A = 65

abbrev pub B : ℕ
B = 66

abbrev pub C : ℕ
C = 67

abbrev pub D : ℕ
D = 68

abbrev pub E : ℕ
E = 69

abbrev pub F : ℕ
F = 70

abbrev pub Z : ℕ
Z = 90

-- ---- values
abbrev pub k : List ℕ
k = 107 ∷ []

abbrev pub m : List ℕ
m = 109 ∷ []

abbrev pub q : List ℕ
q = 113 ∷ []

abbrev pub x : List ℕ
x = 120 ∷ []

abbrev pub y : List ℕ
y = 121 ∷ []

abbrev pub at : ℕ → List ℕ → Ballot
at n value = record { counter = n; value = value }

-- ---- slices
abbrev pub just : ℕ → Slices
just u = record { threshold = 1; members = node u none }

abbrev pub two_of_bcd : Slices
two_of_bcd = record { threshold = 2; members = node B (node C (node D none)) }

abbrev pub three_of_bcde : Slices
three_of_bcde = record { threshold = 3; members = node B (node C (node D (node E none))) }

abbrev pub three_of_abcd : Slices
three_of_abcd = record { threshold = 3; members = node A (node B (node C (node D none))) }

-- ---- envelopes and networks
abbrev pub by : ℕ → Slices → Statement → Sent
by u slices s = record { sender = u; slot = 1; slices = slices; body = s }

-- an envelope of so many bytes reaches A
abbrev pub to_A : ℕ → Slices → Statement → Step
to_A u slices s = Delivers A 104 (Read (by u slices s))

abbrev pub one_net : List HostedNode → Budgets → List Config
one_net nodes budgets = record { number = 1; nodes = nodes; budgets = budgets; roster = None } ∷ []

abbrev pub hosted_with : ℕ → Slices → HostedNode
hosted_with u slices = record { name = u; slices = slices }

-- a network that hosts A alone
abbrev pub net_of_A : Slices → List Config
net_of_A slices = one_net (hosted_with A slices ∷ []) (record { events = 100; bytes = 100000; slots = 1 })

-- the one hosted node of such a network, and the journal of its steps
abbrev pub nodes_A : List HostedNode
nodes_A = hosted_with A two_of_bcd ∷ []

abbrev pub run_A : List Step → List Entry
run_A steps =
    journal (new_net (record {
      number = 1;
      nodes = nodes_A;
      budgets = record { events = 100; bytes = 100000; slots = 1 };
      roster = None;
    })) steps

-- which of A, B, C, D, Z and E are in its closure
abbrev pub members : List Entry → List Bool
members entries = map (closure nodes_A 1 A entries) (A ∷ B ∷ C ∷ D ∷ Z ∷ E ∷ [])

-- steps of network 1
abbrev pub in_one : List Step → List (ℕ × Step)
in_one steps = map (λ e. (1, e)) steps

abbrev pub replies : List Config → List Step → List Reply
replies configs steps = host_run (nets configs) (in_one steps)
