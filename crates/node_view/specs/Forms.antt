-- Forms of slices that a list keeps, told by their numbers.
use Rattle.std.specs.Prelude.{◌≡◌, ◌≢◌, ◌⊎◌, ℕ, ◌<◌, List, false, IsTrue, Option, Some, None, get_or, length}
use Rattle.scp_types.specs.Trees.{Slices}
use Rattle.scp_spec.specs.Sets.{AreWithin, among, within}
use Rattle.scp_spec.specs.Satisfaction.{names, sat}
use Rattle.scp_spec.specs.Quorums.{NamesWithin, is_satisfied}
use Rattle.scp_bits.specs.Places.{Numbered}
use Rattle.scp_bits.specs.Met.{IsCompiled, nodes_at}
use Rattle.scp_bits.specs.Moving.{AreMoved}
use Rattle.scp_bits.specs.Searching.{AreAgreed, AreCompiled, met_at}
use Rattle.node_view.specs.declared.forms.Former.{Former}

-- the numbers of all forms are below this one
abbrev pub AreBelow : ℕ → List (Option Numbered) → Type 0
AreBelow n fs = (i : ℕ) (f : Numbered) → get_or fs i None ≡ Some f → f.number < n

-- all of these nodes have these forms, of their slices, and each number is below how many nodes there are
pub record AreAllForms (us : List ℕ) (slices_at : ℕ → Option Slices) (fs : List (Option Numbered)) : Type 0 where
  pub compiled : AreCompiled us slices_at fs
  pub below : AreBelow (length us) fs

-- forms of its number in the list are of its set
abbrev pub Fits : Numbered → List (Option Numbered) → Type 0
Fits f fs = (i : ℕ) (g : Numbered) → get_or fs i None ≡ Some g → g.number ≡ f.number → g.set ≡ f.set

-- the first of these nodes have these forms, of their slices, and each number is below how many there are
pub record ArePart (us : List ℕ) (slices_at : ℕ → Option Slices) (fs : List (Option Numbered)) : Type 0 where
  pub each : (i : ℕ) → i < length fs → (ws : List ℕ)
      → met_at (get_or fs i None) ws ≡ is_satisfied sat (slices_at (get_or us i 0)) (among (nodes_at us ws))
  pub agreed : AreAgreed fs
  pub below : AreBelow (length fs) fs

-- a form stands in the list at the place of a node with these slices
pub record IsTwin (us : List ℕ) (slices_at : ℕ → Option Slices) (fs : List (Option Numbered)) (q : Slices)
    (f : Numbered) : Type 0 where
  pub place : ℕ
  pub listed : place < length us
  pub inside : place < length fs
  pub there : get_or fs place None ≡ Some f
  pub same : slices_at (get_or us place 0) ≡ Some q

-- the form of these slices is one of the list, at a node with the same slices, or a new one of this number
abbrev pub IsFound : List ℕ → (ℕ → Option Slices) → List (Option Numbered) → ℕ → Slices → Numbered → Type 0
IsFound us slices_at fs n q f = IsTwin us slices_at fs q f ⊎ ((f.number ≡ n) × IsCompiled false us q f.set)

-- the form of these slices is one of the list, or a new one of this number whose slices name these nodes alone
abbrev pub IsFoundWithin : List ℕ → (ℕ → Option Slices) → List (Option Numbered) → ℕ → Slices → Numbered → Type 0
IsFoundWithin us slices_at fs n q f =
    IsTwin us slices_at fs q f ⊎ ((f.number ≡ n) × IsCompiled false us q f.set × IsTrue (within (names q) (among us)))

-- the form of these slices is found so, or it has this number and the set of a form of another list, at a node with the
-- same slices there
abbrev pub IsFoundInEither : List ℕ → (ℕ → Option Slices) → List (Option Numbered) → (ℕ → Option Slices) → List (Option Numbered) → ℕ → Slices → Numbered → Type 0
IsFoundInEither us slices_at fs other_at others n q f =
    IsFoundWithin us slices_at fs n q f
    ⊎ ((f.number ≡ n) × ((g : Numbered) × IsTwin us other_at others q g × (f.set ≡ g.set)))

-- the form is of these slices, may join the list, and its number is below this one
pub record MayJoin (us : List ℕ) (fs : List (Option Numbered)) (n : ℕ) (q : Slices) (f : Numbered) : Type 0 where
  pub compiled : IsCompiled false us q f.set
  pub fits : Fits f fs
  pub below : f.number < n

-- ---- forms of a region of other nodes
-- these nodes, but for one of them, have these forms, of their slices
abbrev pub AreFormsBut : ℕ → List ℕ → (ℕ → Option Slices) → List (Option Numbered) → Type 0
AreFormsBut sender us slices_at fs =
    (i : ℕ) → i < length us → get_or us i 0 ≢ sender → (ws : List ℕ)
    → met_at (get_or fs i None) ws ≡ is_satisfied sat (slices_at (get_or us i 0)) (among (nodes_at us ws))

-- the slices of these nodes, but for one of them, name no others
abbrev pub NameWithinBut : ℕ → List ℕ → (ℕ → Option Slices) → Type 0
NameWithinBut sender us slices_at =
    (u : ℕ) (q : Slices) → IsTrue (among us u) → u ≢ sender → slices_at u ≡ Some q
    → AreWithin (among (names q)) (among us)

-- nodes with the forms of their slices, which name no others, but for those of one node; where they stand among all;
-- and the slices of all name none but these
pub record IsFormer (all : List ℕ) (slices_at : ℕ → Option Slices) (us : List ℕ) (fs : List (Option Numbered))
    (places : List ℕ) (sender : ℕ) : Type 0 where
  pub moved : AreMoved us all places
  pub forms : AreFormsBut sender us slices_at fs
  pub within : NameWithinBut sender us slices_at
  pub closed : NamesWithin names slices_at (among all)

-- some nodes of a region have these forms, of their slices, which name no others, but for those of one; and their
-- places among all
abbrev pub IsFormerOf : List ℕ → (ℕ → Option Slices) → Former → Type 0
IsFormerOf all slices_at f = IsFormer all slices_at f.nodes.now f.forms.now f.places.now f.sender.now

-- the form of a node of a former region, of another node than the one that is left out
pub record IsFormOf (f : Former) (u : ℕ) (form : Numbered) : Type 0 where
  pub place : ℕ
  pub inside : place < length f.nodes.now
  pub node : get_or f.nodes.now place 0 ≡ u
  pub another : u ≢ f.sender.now
  pub there : get_or f.forms.now place None ≡ Some form
