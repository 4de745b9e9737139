-- What the entries of a journal announce, and the closure of a node in it as a list that says who named whom, and in
-- which order.
use Rattle.std.specs.Prelude.{◌≡◌, ℕ, suc, ◌<◌, List, [], ◌∷◌, ◌++◌, Option, Some, None, slice_get, take, map, option_map, IsTrue, IsFalse}
use Rattle.std.specs.List.{IsDistinct}
use Rattle.std.specs.Prelude.{◌==◌}
use Rattle.scp_types.specs.Trees.{Slices}
use Rattle.scp_spec.specs.Sets.{IsAscending, Names, among}
use Rattle.scp_spec.specs.Satisfaction.{names}
use Rattle.scp_spec.specs.Networks.{HostedNode, Step, slices_of}
use Rattle.scp_spec.specs.Networks.Reading.{Read}
use Rattle.scp_spec.specs.Networks.Step.{Delivers, Reslices}
use Rattle.scp_spec.specs.Hosts.{Entry}
use Rattle.scp_spec.specs.Isolation.{closure}
use Rattle.scp_spec.specs.Reslices.{slices_at_end}

-- slices that an applied event announces: at which slot, to whom and from whom
pub record AnnouncedSlices : Type 0 where
  pub slot : ℕ
  pub receiver : ℕ
  pub sender : ℕ
  pub slices : Slices

-- a delivery announces the slices of its envelope, and a node to which new slices are given announces them to itself;
-- no other event announces anything
abbrev pub announced_by : Step → Option AnnouncedSlices
announced_by (Delivers u size (Read e)) =
    Some (record { slot = e.slot; receiver = u; sender = e.sender; slices = e.slices })
announced_by (Reslices j u q) = Some (record { slot = j; receiver = u; sender = u; slices = q })
announced_by _ = None

-- what an entry announces, if there is one
abbrev pub announced_in : Option Entry → Option AnnouncedSlices
announced_in None = None
announced_in (Some x) = announced_by x.event

-- what the entry with this number announces
abbrev pub announced_at : List Entry → ℕ → Option AnnouncedSlices
announced_at entries n = announced_in (slice_get entries n)

-- the slices of a hosted node at a slot after a whole run
abbrev pub slices_then : List HostedNode → ℕ → List Entry → ℕ → Option Slices
slices_then nodes i run u = option_map (λ q. slices_at_end i u q run) (slices_of nodes u)

-- A node w names u by its configured slices, if it is hosted, or by slices that it announces at the slot to one of the
-- members. It announces by a delivery, or as a member that is given new ones.
pub data IsNamedBy (nodes : List HostedNode) (i : ℕ) (run : List Entry) (members : Names) (w u : ℕ) : Type 0 where
  configured : (q : Slices) → slices_of nodes w ≡ Some q → IsTrue (among (names q) u)
      → IsNamedBy nodes i run members w u
  learnt : (n : ℕ) (a : AnnouncedSlices) → announced_at run n ≡ Some a → a.slot ≡ i → a.sender ≡ w
      → IsTrue (members a.receiver) → IsTrue (among (names a.slices) u) → IsNamedBy nodes i run members w u

-- a closure as a list: members in order, each with the place of the member that named it
abbrev pub MemberList : Type 0
MemberList = List (ℕ × ℕ)

-- the names of a list of members, in order
abbrev pub member_names : MemberList → List ℕ
member_names list = map (λ m. m.0) list

-- the member at a place is named by one before it, announcements counting to members before it
pub record IsNamedBefore (nodes : List HostedNode) (i : ℕ) (run : List Entry) (list : MemberList) (place : ℕ)
    (m : ℕ × ℕ) : Type 0 where
  pub namer : ℕ
  pub there : slice_get (member_names list) m.1 ≡ Some namer
  pub before : m.1 < place
  pub named : IsNamedBy nodes i run (among (take place (member_names list))) namer m.0

-- the first member is v, and each later one is named by an earlier one
pub record IsChained (nodes : List HostedNode) (i v : ℕ) (run : List Entry) (list : MemberList) : Type 0 where
  pub first : slice_get list 0 ≡ Some (v, 0)
  pub later : (k : ℕ) (m : ℕ × ℕ) → slice_get list (suc k) ≡ Some m → IsNamedBefore nodes i run list (suc k) m

-- the turn of the member w at a place: the names that it names and that are missing join at the end, ascending
pub record IsTurn (nodes : List HostedNode) (i : ℕ) (run : List Entry) (w place : ℕ) (old new : MemberList) : Type 0 where
  pub joined : List ℕ
  pub ascending : IsAscending joined
  pub named : (u : ℕ) → IsTrue (among joined u) → IsNamedBy nodes i run (among (member_names old)) w u
  pub missing : (u : ℕ) → IsTrue (among joined u) → IsFalse (among (member_names old) u)
  pub all : (u : ℕ) → IsNamedBy nodes i run (among (member_names old)) w u → IsFalse (among (member_names old) u) → IsTrue (among joined u)
  pub is : new ≡ old ++ map (λ u. (u, place)) joined

-- The members that there are when the turn of a place comes: at first v, and from then on what each turn makes of them.
-- Turns go through the places in order, with those of members that joined meanwhile, and then from the first one on.
pub data AreMembersAt (nodes : List HostedNode) (i v : ℕ) (run : List Entry) : ℕ → MemberList → Type 0 where
  first : AreMembersAt nodes i v run 0 ((v, 0) ∷ [])
  turn : {place w : ℕ} {old new : MemberList} → AreMembersAt nodes i v run place old
      → slice_get (member_names old) place ≡ Some w → IsTurn nodes i run w place old new
      → AreMembersAt nodes i v run (suc place) new
  again : {place : ℕ} {list : MemberList} → AreMembersAt nodes i v run place list
      → slice_get (member_names list) place ≡ None → AreMembersAt nodes i v run 0 list

-- The closure of v as a list: v first, each member once, each later one with an earlier one that names it, in the order
-- of their turns, and exactly its members.
pub record IsClosureList (nodes : List HostedNode) (i v : ℕ) (run : List Entry) (list : MemberList) : Type 0 where
  pub chained : IsChained nodes i v run list
  pub once : IsDistinct (λ x y. x == y) (member_names list)
  pub in_turn : AreMembersAt nodes i v run 0 list
  pub exactly : (u : ℕ) → among (member_names list) u ≡ closure nodes i v run u

-- a closure has only one list
abbrev pub ClosureListsAreOne : Type 0
ClosureListsAreOne =
    (nodes : List HostedNode) (i v : ℕ) (run : List Entry) (one other : MemberList) → IsClosureList nodes i v run one
    → IsClosureList nodes i v run other → one ≡ other
