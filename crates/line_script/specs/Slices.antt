-- The slices that words spell.
use Rattle.std.specs.Prelude.{◌≡◌, ◌++◌, ℕ, [], ◌∷◌, Option, Some, None}
use Rattle.scp_types.specs.Trees.{Members, none, node, inner, Slices, IsNested}
use Rattle.line_script.specs.Script.{Bytes}
use Rattle.line_script.specs.Names.{word_name}
use Rattle.line_script.specs.Words.{word_threshold}
use Rattle.line_script.specs.Printed.{text_of_slices}

-- the text spells these members, each with a comma (44) before it: a name, or a threshold and in brackets (91 and 93)
-- again members
pub data SpellsMembers : Members → Bytes → Type 0 where
  nobody : SpellsMembers none []
  name : {u : ℕ} {rest : Members} {text : Bytes} (word more : Bytes) → text ≡ 44 ∷ (word ++ more)
      → word_name word ≡ Some u → SpellsMembers rest more
      → SpellsMembers (node u rest) text
  set : {k : ℕ} {own rest : Members} {text : Bytes} (digits inside more : Bytes)
      → text ≡ 44 ∷ (digits ++ 91 ∷ (inside ++ 93 ∷ more)) → word_threshold digits ≡ Some k
      → SpellsMembers own (44 ∷ inside) → SpellsMembers rest more → SpellsMembers (inner k own rest) text

-- the word spells these slices: a threshold, and in brackets the members with a comma between each and the next
pub record SpellsSlices (q : Slices) (word : Bytes) : Type 0 where
  pub digits : Bytes
  pub inside : Bytes
  pub parts : word ≡ digits ++ 91 ∷ (inside ++ 93 ∷ [])
  pub threshold : word_threshold digits ≡ Some q.threshold
  pub members : SpellsMembers q.members (44 ∷ inside)

-- what a word is read as: slices that it spells and that keep the rules, or nothing if there are none such
abbrev pub AreSlices : Bytes → Option Slices → Type 0
AreSlices word (Some q) = SpellsSlices q word × IsNested q
AreSlices word None = (q : Slices) → SpellsSlices q word → ¬ (IsNested q)

-- a word spells no two slices that keep the rules
abbrev pub SlicesSpelledOnce : Type 0
SlicesSpelledOnce =
    (p q : Slices) (word : Bytes) → SpellsSlices p word → IsNested p → SpellsSlices q word → IsNested q → p ≡ q

-- slices are what their printed word is read as
abbrev pub SlicesReadBack : Type 0
SlicesReadBack = (q : Slices) → IsNested q → (r : Option Slices) → AreSlices (text_of_slices q) r → r ≡ Some q
