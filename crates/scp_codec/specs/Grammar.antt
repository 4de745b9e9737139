-- Which fronts of a text show which fault, and what is wrong with a whole text.
use Rattle.std.specs.Prelude.{◌≡◌, ◌≢◌, ℕ, zero, suc, ◌<◌, ◌≤◌, ◌^◌, List, [], ◌++◌, length, ◌==◌, ◌⊎◌, Option, IfSome, AllPairs, if◌then◌else◌}
use Rattle.std.specs.List.{AllByRecursion}
use Rattle.std.specs.Int.{w16, w32, w64, to_be_bytes}
use Rattle.scp_codec.specs.declared.error.Fault.{Fault}
use Rattle.scp_codec.specs.declared.error.Fault.TheVariants.{Truncated, TrailingBytes, Limit, BadSlices, BadStatement}
use Rattle.scp_types.specs.Trees.{Members, Slices, none, names_in, depth_of, most_names, most_levels, IsName, HaveThresholds, IsNested}
use Rattle.scp_types.specs.declared.ballot.Ballot.{Ballot}
use Rattle.scp_types.specs.declared.statement.Statement.{Statement}
use Rattle.scp_types.specs.declared.statement.Statement.TheVariants.{Nominate, Prepare, Commit, Externalize}
use Rattle.scp_types.specs.Nominations.{IsValue, most_nominated}
use Rattle.scp_types.specs.Statements.{Sent, IsBallot, HasWidths, IsEnvelope}
use Rattle.scp_codec.specs.Formats.{Fronts, NoFault, ValidThen, ShowsThen, text_then, ValidJudged, ShowsJudged, ShowsEither, ShowsFail, text_either, ShowsIf}
use Rattle.scp_codec.specs.Spelling.{byte, name, slices, value, ballot, nominated_values, kind, body, first_levels, spelling, Spells, most_bytes}
use Rattle.scp_codec.specs.Faults.{version_fault, spare_fault, kind_fault, header_fault, name_fault, length_fault, count_fault, statement_fault}
use Rattle.scp_codec.specs.Parts.{Part, part_names, part_before}

-- ---- what fits its field
-- any number: no text has one above 255
abbrev pub IsByte : ℕ → Type 0
IsByte n = Unit {0}

-- a number of 16 bits
abbrev pub IsHalf : ℕ → Type 0
IsHalf n = n < 2 ^ 16

-- a number of 32 bits
abbrev pub IsWord : ℕ → Type 0
IsWord n = n < 2 ^ 32

-- a number of 64 bits
abbrev pub IsLong : ℕ → Type 0
IsLong n = n < 2 ^ 64

-- ---- values and ballots
-- a length that no value has
abbrev pub ShowsValue : Fronts
ShowsValue = ShowsJudged (to_be_bytes w16) IsHalf NoFault length_fault

-- behind a counter, a length that no value has
abbrev pub ShowsBallot : Fronts
ShowsBallot = ShowsThen (to_be_bytes w32) IsWord NoFault (λ c. ShowsValue)

-- a byte that is neither 0 nor 1, or a fault of the ballot behind a 1
abbrev pub ShowsOptional : Fronts
ShowsOptional = ShowsEither 0 NoFault 1 ShowsBallot BadStatement

-- no ballot, or a ballot
abbrev pub IsOptional : Option Ballot → Type 0
IsOptional o = IfSome o IsBallot

-- a value, after others, shows it
unfoldable pub ShowsValues : ℕ → Fronts
ShowsValues zero front f = ⊥
ShowsValues (suc n) front f = ShowsThen value IsValue ShowsValue (λ v. ShowsValues n) front f

-- a count that a set of a nomination may have
abbrev pub IsCount : ℕ → Type 0
IsCount = ValidJudged IsByte count_fault

-- a count that no set of a nomination has
abbrev pub ShowsCount : Fronts
ShowsCount = ShowsJudged byte IsByte NoFault count_fault

-- the count of a set of a nomination shows it, or one of its values
abbrev pub ShowsNominated : Fronts
ShowsNominated = ShowsThen byte IsCount ShowsCount ShowsValues

-- ---- statements
-- at most 16 values, in any order
abbrev pub AreNominated : List (List ℕ) → Type 0
AreNominated vs = (length vs ≤ most_nominated) × AllByRecursion IsValue vs

-- each field of a statement fits the bytes that it has
abbrev pub HasFields : Statement → Type 0
HasFields (Nominate voted accepted) = AreNominated voted × AreNominated accepted
HasFields (Prepare b p a h c) = HasWidths (Prepare b p a h c)
HasFields (Commit b p h c) = HasWidths (Commit b p h c)
HasFields (Externalize b h) = HasWidths (Externalize b h)

-- a statement of the kind, whether or not it keeps the rules of its kind
abbrev pub HasKind : ℕ → Statement → Type 0
HasKind k s = (kind s ≡ k) × HasFields s

-- the voted values show it, or the accepted ones
abbrev pub ShowsNominate : Fronts
ShowsNominate = ShowsThen nominated_values AreNominated ShowsNominated (λ v. ShowsNominated)

-- the ballot shows it, or what is prepared
abbrev pub ShowsPrepare : Fronts
ShowsPrepare = ShowsThen ballot IsBallot ShowsBallot (λ b. ShowsOptional)

-- a field of a statement shows it: in COMMIT and EXTERNALIZE only the ballot can
abbrev pub ShowsBody : ℕ → Fronts
ShowsBody k = ShowsIf (k == 1) ShowsNominate (ShowsIf (k == 2) ShowsPrepare ShowsBallot)

-- a field shows it, or the whole statement, which breaks the rules of its kind
abbrev pub ShowsStatement : ℕ → Fronts
ShowsStatement k = ShowsJudged body (HasKind k) (ShowsBody k) statement_fault

-- ---- slices
-- a threshold and a count
abbrev pub header : ℕ × ℕ → List ℕ
header = text_then byte (λ k. byte)

-- any two bytes
abbrev pub AreBytes : ℕ × ℕ → Type 0
AreBytes = ValidThen IsByte (λ k. IsByte)

-- a threshold and a count that a set may have
abbrev pub IsHeader : ℕ × ℕ → Type 0
IsHeader = ValidJudged AreBytes header_fault

-- a threshold and a count that no set has
abbrev pub ShowsHeader : Fronts
ShowsHeader = ShowsJudged header AreBytes NoFault header_fault

-- names that may stand in one tree
pub record AreNames (us : List ℕ) : Type 0 where
  pub few : length us ≤ most_names
  pub differ : AllPairs (λ u w. u ≢ w) us
  pub fit : AllByRecursion IsName us

-- members that may stand in a tree behind the names seen, with at most n levels of inner sets
pub record IsTree (levels : ℕ) (seen : List ℕ) (ms : Members) : Type 0 where
  pub thresholds : HaveThresholds ms
  pub depth : depth_of ms ≤ levels
  pub names : AreNames (seen ++ names_in ms)

-- a member that may come next
abbrev pub IsPart : ℕ → List ℕ → Part → Type 0
IsPart levels seen m = IsTree levels seen (part_before m none)

-- a 0 and a name, or a 1 and a set
abbrev pub part : Part → List ℕ
part = text_either 0 name 1 slices

-- a name that may not come next
abbrev pub ShowsName : List ℕ → Fronts
ShowsName seen = ShowsJudged name IsName NoFault (name_fault seen)

-- a byte that is neither 0 nor 1, or a fault of the name or the inner set behind it
abbrev pub ShowsPart : (List ℕ → Fronts) → List ℕ → Fronts
ShowsPart ShowsInside seen = ShowsEither 0 (ShowsName seen) 1 (ShowsInside seen) BadSlices

-- one of n members shows it, after others that may stand there
unfoldable pub ShowsParts : ℕ → (List ℕ → Fronts) → ℕ → List ℕ → Fronts
ShowsParts levels ShowsInside zero seen front f = ⊥
ShowsParts levels ShowsInside (suc n) seen front f =
    ShowsThen part (IsPart levels seen) (ShowsPart ShowsInside seen) (λ m. ShowsParts levels ShowsInside n (seen ++ part_names m)) front f

-- the threshold and the count of a set show it, or one of its members
abbrev pub ShowsSet : ℕ → (List ℕ → Fronts) → List ℕ → Fronts
ShowsSet levels ShowsInside seen = ShowsThen header IsHeader ShowsHeader (λ h. ShowsParts levels ShowsInside h.1 seen)

-- behind a 1: it is BadSlices at once if no level is left, else what the inner set shows
unfoldable pub ShowsInner : ℕ → List ℕ → Fronts
ShowsInner zero seen front f = ShowsFail BadSlices front f
ShowsInner (suc levels) seen front f = ShowsSet levels (ShowsInner levels) seen front f

-- the most levels of inner sets that an envelope of the version may have
abbrev pub levels_in : ℕ → ℕ
levels_in v = if v == 1 then first_levels else most_levels

-- slices with no more levels than the version has
abbrev pub HasLevels : ℕ → Slices → Type 0
HasLevels v q = IsNested q × (depth_of q.members ≤ levels_in v)

-- slices that are spelled in the version
abbrev pub IsInVersion : ℕ → Slices → Type 0
IsInVersion v = ValidJudged (HasLevels v) (spare_fault v)

-- the outermost set shows it, with no names before, or the whole slices, which need no such version
abbrev pub ShowsSlices : ℕ → Fronts
ShowsSlices v = ShowsJudged slices (HasLevels v) (ShowsSet (levels_in v) (ShowsInner (levels_in v)) []) (spare_fault v)

-- ---- envelopes
-- a version that there is
abbrev pub IsVersion : ℕ → Type 0
IsVersion = ValidJudged IsByte version_fault

-- a version that there is not
abbrev pub ShowsVersion : Fronts
ShowsVersion = ShowsJudged byte IsByte NoFault version_fault

-- a kind that there is
abbrev pub IsKind : ℕ → Type 0
IsKind = ValidJudged IsByte kind_fault

-- a kind that there is not
abbrev pub ShowsKind : Fronts
ShowsKind = ShowsJudged byte IsByte NoFault kind_fault

-- behind the version and the kind, the sender and the slot: the slices show it, or the statement
abbrev pub ShowsRest : ℕ → ℕ → Fronts
ShowsRest v k =
    ShowsThen name IsName NoFault (λ u. ShowsThen (to_be_bytes w64) IsLong NoFault (λ n. ShowsThen slices (IsInVersion v) (ShowsSlices v) (λ q. ShowsStatement k)))

-- the version shows it, or the kind, the slices or the statement
abbrev pub ShowsFault : Fronts
ShowsFault = ShowsThen byte IsVersion ShowsVersion (λ v. ShowsThen byte IsKind ShowsKind (ShowsRest v))

-- ---- whole texts
-- some front of the text shows the fault
abbrev pub ShowsIn : List ℕ → Fault → Type 0
ShowsIn text f = (front : List ℕ) × (rest : List ℕ) × (text ≡ front ++ rest) × ShowsFault front f

-- some front of the text is an envelope, and this is the rest
abbrev pub HasEnvelope : List ℕ → List ℕ → Type 0
HasEnvelope text rest = (e : Sent) × IsEnvelope e × (text ≡ spelling e ++ rest)

-- there are bytes after an envelope
abbrev pub GoesOn : List ℕ → Type 0
GoesOn text = (rest : List ℕ) × HasEnvelope text rest × (0 < length rest)

-- no front shows a fault, and no front is an envelope
abbrev pub BreaksOff : List ℕ → Type 0
BreaksOff text = ((f : Fault) → ShowsIn text f → ⊥) × ((rest : List ℕ) → HasEnvelope text rest → ⊥)

-- what is wrong with a text that is not too long
abbrev pub IsFaultWithin : List ℕ → Fault → Type 0
IsFaultWithin text f = ShowsIn text f ⊎ ((GoesOn text × (f ≡ TrailingBytes)) ⊎ (BreaksOff text × (f ≡ Truncated)))

-- the fault of a text: too great a length comes before all others
abbrev pub IsFault : List ℕ → Fault → Type 0
IsFault text f = ((most_bytes < length text) × (f ≡ Limit)) ⊎ ((length text ≤ most_bytes) × IsFaultWithin text f)

-- the text spells e and nothing else, and has no fault
pub record SpellsOnly (text : List ℕ) (e : Sent) : Type 0 where
  pub spelled : Spells text e
  pub no_other : (d : Sent) → Spells text d → d ≡ e
  pub no_fault : (f : Fault) → IsFault text f → ⊥

-- the text has the fault and no other, and spells nothing
pub record HasOnlyFault (text : List ℕ) (f : Fault) : Type 0 where
  pub shown : IsFault text f
  pub no_other : (g : Fault) → IsFault text g → g ≡ f
  pub not_spelled : (e : Sent) → Spells text e → ⊥

-- a text either spells one envelope or has one fault
abbrev pub HasOneAnswer : List ℕ → Type 0
HasOneAnswer text = ((e : Sent) × SpellsOnly text e) ⊎ ((f : Fault) × HasOnlyFault text f)
