-- How a closure is found: announcements by sender and by receiver, those that are ready for a turn, and the turns of
-- members.
use Rattle.std.specs.Prelude.{◌≡◌, ◌⊎◌, ℕ, zero, suc, ◌<◌, ◌≤◌, Bool, false, ◌==◌, ◌&&◌, List, [], ◌∷◌, ◌++◌, length, take, get_or, Option, Some, None, if◌then◌else◌, IsTrue, IsFalse, slice_get, flat_map, AllPairs}
use Rattle.scp_types.specs.Trees.{Slices}
use Rattle.scp_spec.specs.Sets.{Names, among}
use Rattle.scp_spec.specs.Satisfaction.{names}
use Rattle.scp_spec.specs.Networks.{HostedNode}
use Rattle.scp_spec.specs.Hosts.{Entry}
use Rattle.host_closure.specs.Announcing.{AnnouncedSlices, announced_at, IsNamedBy, MemberList, member_names, IsChained}

-- ---- announcements by one of their parties
-- the sender of an announcement at the slot
abbrev pub sender_at : ℕ → Option AnnouncedSlices → Option ℕ
sender_at i None = None
sender_at i (Some a) = if a.slot == i then Some a.sender else None

-- the receiver of an announcement at the slot
abbrev pub receiver_at : ℕ → Option AnnouncedSlices → Option ℕ
receiver_at i None = None
receiver_at i (Some a) = if a.slot == i then Some a.receiver else None

-- the node is the one that is there
abbrev pub is_this : ℕ → Option ℕ → Bool
is_this w None = false
is_this w (Some u) = u == w

-- the number of the last entry of a party, of the first k entries
abbrev pub last_below : (Option AnnouncedSlices → Option ℕ) → List Entry → ℕ → ℕ → Option ℕ
last_below party run w zero = None
last_below party run w (suc k) = if is_this w (party (announced_at run k)) then Some k else last_below party run w k

-- what a list of pairs has beside a name
abbrev pub found_by : List (ℕ × ℕ) → ℕ → Option ℕ
found_by [] u = None
found_by (x ∷ xs) u = if x.0 == u then Some x.1 else found_by xs u

-- the last announcement of each party, and for each entry the last one before it of the same party
pub record PartyIndex : Type 0 where
  pub latest : List (ℕ × ℕ)
  pub earlier : List (Option ℕ)

-- the index is that of one more entry
abbrev pub IsIndexedTo : PartyIndex → PartyIndex → Option ℕ → Type 0
IsIndexedTo old new None = (new.latest ≡ old.latest) × (new.earlier ≡ old.earlier ++ None ∷ [])
IsIndexedTo old new (Some w) =
    ((u : ℕ) → found_by new.latest u ≡ (if w == u then Some (length old.earlier) else found_by old.latest u))
    × (new.earlier ≡ old.earlier ++ found_by old.latest w ∷ [])

-- the announcements among the first n entries, by a party
pub record IsIndex (party : Option AnnouncedSlices → Option ℕ) (run : List Entry) (n : ℕ) (d : PartyIndex)
    : Type 0 where
  pub counted : length d.earlier ≡ n
  pub latest : (w : ℕ) → found_by d.latest w ≡ last_below party run w n
  pub earlier : (k w : ℕ) → k < n → party (announced_at run k) ≡ Some w
      → get_or d.earlier k None ≡ last_below party run w k

-- the announcements by sender, and by receiver
pub record AnnouncementIndex : Type 0 where
  pub sent : PartyIndex
  pub heard : PartyIndex

-- both indexes are of the announcements at the slot among the first n entries
pub record AreIndexed (i : ℕ) (run : List Entry) (n : ℕ) (d : AnnouncementIndex) : Type 0 where
  pub sent : IsIndex (sender_at i) run n d.sent
  pub heard : IsIndex (receiver_at i) run n d.heard

-- ---- announcements that are ready
-- the numbers that are ready for the member at a place
abbrev pub ready_at : List (List ℕ) → ℕ → List ℕ
ready_at ready place = get_or ready place []

-- one more number is ready for the member at a place, if that has a list
abbrev pub with_ready : List (List ℕ) → ℕ → ℕ → List (List ℕ)
with_ready [] place n = []
with_ready (x ∷ xs) zero n = (x ++ n ∷ []) ∷ xs
with_ready (x ∷ xs) (suc place) n = x ∷ with_ready xs place n

-- the lists after a turn: none is ready at its place; a first turn, at the next place, gives it a list
abbrev pub lists_after_turn : List (List ℕ) → ℕ → List (List ℕ)
lists_after_turn [] place = [] ∷ []
lists_after_turn (x ∷ xs) zero = [] ∷ xs
lists_after_turn (x ∷ xs) (suc place) = x ∷ lists_after_turn xs place

-- ---- turns
-- the names of slices, if there are any
abbrev pub known_names : Option Slices → List ℕ
known_names None = []
known_names (Some q) = names q

-- the names that an announcement adds in the turn of w: those of its slices if it is one of w at the slot to a
-- member, else none
abbrev pub added_names : ℕ → List ℕ → ℕ → Option AnnouncedSlices → List ℕ
added_names i members w None = []
added_names i members w (Some a) =
    if a.slot == i && (a.sender == w && among members a.receiver) then names a.slices else []

-- the names that the entries with these numbers add
abbrev pub all_added : ℕ → List Entry → List ℕ → ℕ → List ℕ → List ℕ
all_added i run members w numbers = flat_map (λ n. added_names i members w (announced_at run n)) numbers

-- all that w names, announcements counting to the receivers, is among the members
abbrev pub NamesAreMembers : List HostedNode → ℕ → List Entry → List ℕ → List ℕ → ℕ → Type 0
NamesAreMembers nodes i run members receivers w =
    (u : ℕ) → IsNamedBy nodes i run (among receivers) w u → IsTrue (among members u)

-- all that the members name is among them, announcements counting to the receivers
abbrev pub AllNamesAreMembers : List HostedNode → ℕ → List Entry → List ℕ → List ℕ → Type 0
AllNamesAreMembers nodes i run members receivers =
    (j w : ℕ) → slice_get members j ≡ Some w → NamesAreMembers nodes i run members receivers w

-- one of the numbers is that of an announcement at the slot from w to a member, of slices that name u
pub record IsDue (i : ℕ) (run : List Entry) (members : Names) (numbers : List ℕ) (w u : ℕ) : Type 0 where
  pub number : ℕ
  pub announcement : AnnouncedSlices
  pub there : IsTrue (among numbers number)
  pub at : announced_at run number ≡ Some announcement
  pub slot : announcement.slot ≡ i
  pub sender : announcement.sender ≡ w
  pub receiver : IsTrue (members announcement.receiver)
  pub named : IsTrue (among (names announcement.slices) u)

-- Each member that had a turn has a list of numbers. All that such a member names is a member, or its list has the
-- announcement of it. Or it is one of the names that are given in the turn that is underway, which is that member's.
pub record AreCovered (nodes : List HostedNode) (i : ℕ) (run : List Entry) (members : List ℕ) (ready : List (List ℕ))
    (place : ℕ) (given : List ℕ) : Type 0 where
  pub within : length ready ≤ length members
  pub covered : (j w u : ℕ) → j < length ready → slice_get members j ≡ Some w
      → IsNamedBy nodes i run (among members) w u
      → IsTrue (among members u)
      ⊎ (IsDue i run (among members) (ready_at ready j) w u ⊎ ((j ≡ place) × IsTrue (among given u)))

-- all that a member named in its turn is a member, or its list has the announcement of it; and no turn is underway
abbrev pub IsReady : List HostedNode → ℕ → List Entry → List ℕ → List (List ℕ) → Type 0
IsReady nodes i run members ready = AreCovered nodes i run members ready 0 []

-- the names that a member gives in its turn: nothing but what it names, and all of that which is no member already
pub record IsGiven (nodes : List HostedNode) (i : ℕ) (run : List Entry) (members : List ℕ) (w : ℕ) (given : List ℕ)
    : Type 0 where
  pub sound : (u : ℕ) → IsTrue (among given u) → IsNamedBy nodes i run (among members) w u
  pub complete : (u : ℕ) → IsNamedBy nodes i run (among members) w u → IsTrue (among members u) ⊎ IsTrue (among given u)

-- numbers in order, of which some may be the same
abbrev pub AreInOrder : List ℕ → Type 0
AreInOrder xs = AllPairs (λ x y. x ≤ y) xs

-- ---- members that join
-- the list with a name at its end, with the place of the member that names it, unless it is there
abbrev pub with_member : MemberList → ℕ → ℕ → MemberList
with_member list u place = if among (member_names list) u then list else list ++ (u, place) ∷ []

-- numbers became ready, and all that were ready stay so
pub record AreMore (old new : List (List ℕ)) : Type 0 where
  pub counted : length new ≡ length old
  pub kept : (j n : ℕ) → IsTrue (among (ready_at old j) n) → IsTrue (among (ready_at new j) n)

-- an entry is ready for its sender, if that is a member that had a turn
abbrev pub IsFor : List ℕ → List (List ℕ) → ℕ → Option AnnouncedSlices → Type 0
IsFor members ready n o =
    (a : AnnouncedSlices) (j : ℕ) → o ≡ Some a → slice_get members j ≡ Some a.sender → j < length ready
    → IsTrue (among (ready_at ready j) n)

-- each announcement at the slot to a node is ready for its sender, if that is a member that had a turn
abbrev pub AreWoken : ℕ → List Entry → List ℕ → List (List ℕ) → ℕ → Type 0
AreWoken i run members ready u =
    (n : ℕ) (a : AnnouncedSlices) → announced_at run n ≡ Some a → a.slot ≡ i → a.receiver ≡ u
    → IsFor members ready n (Some a)

-- a name joins, unless it is there: the announcements to it become ready
pub record IsJoined (i : ℕ) (run : List Entry) (old new : MemberList) (before after : List (List ℕ)) (u place : ℕ)
    : Type 0 where
  pub members : new ≡ with_member old u place
  pub more : AreMore before after
  pub woken : IsFalse (among (member_names old) u) → AreWoken i run (member_names new) after u

-- members that a turn or a sweep adds: the old ones stay in front, and the list is still chained
pub record IsGrown (nodes : List HostedNode) (i v : ℕ) (run : List Entry) (old new : MemberList) : Type 0 where
  pub kept : take (length old) new ≡ old
  pub chained : IsChained nodes i v run new
