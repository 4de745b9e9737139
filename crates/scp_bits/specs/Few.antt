-- Few places: sets without inner sets whose places are words.
use Rattle.std.specs.Prelude.{◌≡◌, ℕ, suc, List, [], ◌∷◌}
use Rattle.scp_bits.specs.Met.{has_needed}
use Rattle.scp_bits.specs.Places.{Compiled, none}
use Rattle.scp_bits.specs.declared.few.FewPlaces.{FewPlaces}
use Rattle.scp_bits.specs.declared.form.FormSet.{FormSet}
use Rattle.scp_bits.specs.declared.form.FormSet.TheVariants.{Few, Any}
use Rattle.scp_bits.specs.declared.mask.Mask.{Mask}

-- the places in words, the first of which has this index
abbrev pub masks_from : ℕ → List ℕ → List Mask
masks_from i [] = []
masks_from i (w ∷ words) = record { index = i; bits = w } ∷ masks_from (suc i) words

-- few places as a compiled set
abbrev pub few_set : FewPlaces → Compiled
few_set few = record { needed = few.needed; masks = masks_from 0 few.words; inner = none }

-- the compiled set of a form
abbrev pub set_in : FormSet → Compiled
set_in (Few few) = few_set few
set_in (Any set) = set

-- the same sets of places meet both
abbrev pub AreMetAlike : Compiled → Compiled → Type 0
AreMetAlike one other = (ws : List ℕ) → has_needed other ws ≡ has_needed one ws
