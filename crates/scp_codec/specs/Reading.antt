-- Reading from left to right: what the decoder's steps give. Nothing public speaks of it.
use Rattle.std.specs.Prelude.{ℕ, zero, suc, ◌+◌, ◌*◌, ◌^◌, List, [], ◌∷◌, ◌++◌, length, Option, Some, None, Result, Ok, Err, nat_lt, ◌==◌, if◌then◌else◌, ◌⊎◌}
use Rattle.std.proofs.Common.{inl, inr}
use Rattle.std.specs.Int.{w16, w32, w64}
use Rattle.scp_codec.specs.declared.error.Fault.{Fault}
use Rattle.scp_codec.specs.declared.error.Fault.TheVariants.{TrailingBytes, Limit, BadSlices, BadStatement}
pub use Rattle.scp_codec.specs.Steps.{◌>>=◌, Fails, Gives, Says, IsBytes, byte_at, number_at, bytes_at}
use Rattle.scp_codec.specs.Steps.{Reads, read_then, read_judged, read_as, read_either}
use Rattle.scp_codec.specs.Parts.{Part, part_names, part_before}
use Rattle.scp_codec.specs.Faults.{version_fault, spare_fault, kind_fault, header_fault, name_fault, length_fault, count_fault, statement_fault}
use Rattle.scp_codec.specs.Spelling.{most_bytes}
use Rattle.scp_types.specs.declared.ballot.Ballot.{Ballot}
use Rattle.scp_types.specs.Trees.{Members, none, Slices}
use Rattle.scp_codec.specs.Grammar.{levels_in}
use Rattle.scp_types.specs.declared.statement.Statement.{Statement}
use Rattle.scp_types.specs.declared.statement.Statement.TheVariants.{Nominate, Prepare, Commit, Externalize}
use Rattle.scp_types.specs.Statements.{Sent}

-- ---- names, values and ballots
-- four words of 64 bits
abbrev pub Words : Type 0
Words = ℕ × (ℕ × (ℕ × ℕ))

-- the number that they are
abbrev pub name_of : Words → ℕ
name_of x = x.0 * 2 ^ 192 + x.1.0 * 2 ^ 128 + x.1.1.0 * 2 ^ 64 + x.1.1.1

-- reads a name
unfoldable pub name_at : Reads ℕ
name_at =
    read_as (read_then (number_at w64) (λ a. read_then (number_at w64) (λ b. read_then (number_at w64) (λ c. number_at w64)))) name_of

-- reads a value: a length that it may have, and as many bytes
unfoldable pub value_at : Reads (List ℕ)
value_at = read_as (read_then (read_judged (number_at w16) length_fault) bytes_at) (λ x. x.1)

-- reads a ballot: a counter and a value
unfoldable pub ballot_at : Reads Ballot
ballot_at = read_as (read_then (number_at w32) (λ c. value_at)) (λ x. record { counter = x.0; value = x.1 })

-- what the flag before a ballot says
abbrev pub some_or_none : Unit {0} ⊎ Ballot → Option Ballot
some_or_none (inl u) = None
some_or_none (inr b) = Some b

-- reads a ballot that may be missing: a flag, and the ballot behind a 1
unfoldable pub optional_at : Reads (Option Ballot)
optional_at = read_as (read_either 0 (λ bytes. Ok (tt, bytes)) 1 ballot_at BadStatement) some_or_none

-- ---- slices
-- reads a name that joins those read so far
unfoldable pub new_name_at : List ℕ → Reads ℕ
new_name_at seen = read_judged name_at (name_fault seen)

-- reads one member: a 0 and a name, or a 1 and what set_of reads
unfoldable pub member_at : (List ℕ → Reads Slices) → List ℕ → Reads Part
member_at set_of seen = read_either 0 (new_name_at seen) 1 (set_of seen) BadSlices

-- reads n members, one after another; set_of reads inner sets
unfoldable pub member_list_at : (List ℕ → Reads Slices) → ℕ → List ℕ → Reads Members
member_list_at set_of zero seen bytes = Ok (none, bytes)
member_list_at set_of (suc n) seen bytes =
    read_as (read_then (member_at set_of seen) (λ m. member_list_at set_of n (seen ++ part_names m))) (λ x. part_before x.0 x.1) bytes

-- reads a threshold and a count
unfoldable pub header_at : Reads (ℕ × ℕ)
header_at = read_judged (read_then byte_at (λ k. byte_at)) header_fault

-- reads a set: a threshold, a count and the members; set_of reads inner sets
unfoldable pub set_with : (List ℕ → Reads Slices) → List ℕ → Reads Slices
set_with set_of seen =
    read_as (read_then header_at (λ h. member_list_at set_of h.1 seen)) (λ x. record { threshold = x.0.0; members = x.1 })

-- reads what stands behind a 1, with n levels left: an inner set; if no level is left, it is BadSlices at once
unfoldable pub inner_at : ℕ → List ℕ → Reads Slices
inner_at zero seen bytes = Err BadSlices
inner_at (suc levels) seen bytes = set_with (inner_at levels) seen bytes

-- reads a set with at most n levels of inner sets, and no names before it
unfoldable pub nested_at : ℕ → Reads Slices
nested_at levels = set_with (inner_at levels) []

-- reads the slices of an envelope of the version
unfoldable pub slices_at : ℕ → Reads Slices
slices_at v = read_judged (nested_at (levels_in v)) (spare_fault v)

-- ---- statements
-- reads n values, one after another
unfoldable pub values_at : ℕ → Reads (List (List ℕ))
values_at zero bytes = Ok ([], bytes)
values_at (suc n) bytes = read_as (read_then value_at (λ v. values_at n)) (λ x. x.0 ∷ x.1) bytes

-- reads a set of values of a nomination: a count that it may have, and as many values
unfoldable pub nominated_at : Reads (List (List ℕ))
nominated_at = read_as (read_then (read_judged byte_at count_fault) values_at) (λ x. x.1)

-- reads the fields of NOMINATE
unfoldable pub nominate_at : Reads Statement
nominate_at = read_as (read_then nominated_at (λ v. nominated_at)) (λ x. Nominate x.0 x.1)

-- reads the fields of PREPARE
unfoldable pub prepare_at : Reads Statement
prepare_at =
    read_as (read_then ballot_at (λ b. read_then optional_at (λ p. read_then (number_at w32) (λ a. read_then (number_at w32) (λ h. number_at w32))))) (λ x. Prepare x.0 x.1.0 x.1.1.0 x.1.1.1.0 x.1.1.1.1)

-- reads the fields of COMMIT
unfoldable pub commit_at : Reads Statement
commit_at =
    read_as (read_then ballot_at (λ b. read_then (number_at w32) (λ p. read_then (number_at w32) (λ h. number_at w32)))) (λ x. Commit x.0 x.1.0 x.1.1.0 x.1.1.1)

-- reads the fields of EXTERNALIZE
unfoldable pub externalize_at : Reads Statement
externalize_at = read_as (read_then ballot_at (λ b. number_at w32)) (λ x. Externalize x.0 x.1)

-- reads the fields of a statement of the kind
unfoldable pub body_at : ℕ → Reads Statement
body_at kind bytes =
    if kind == 1 then nominate_at bytes else if kind == 2 then prepare_at bytes else if kind == 3 then commit_at bytes
    else externalize_at bytes

-- a statement that keeps its rules
unfoldable pub statement_at : ℕ → Reads Statement
statement_at kind = read_judged (body_at kind) statement_fault

-- ---- envelopes
-- reads the version
unfoldable pub version_at : Reads ℕ
version_at = read_judged byte_at version_fault

-- reads the kind
unfoldable pub kind_at : Reads ℕ
kind_at = read_judged byte_at kind_fault

-- all parts of an envelope in order
abbrev pub Fields : Type 0
Fields = ℕ × (ℕ × (ℕ × (ℕ × (Slices × Statement))))

-- the envelope of these parts
abbrev pub envelope_of : Fields → Sent
envelope_of x = record { sender = x.1.1.0; slot = x.1.1.1.0; slices = x.1.1.1.1.0; body = x.1.1.1.1.1 }

-- reads what stands behind the version and the kind: sender, slot, slices and statement
unfoldable pub parts_at : ℕ → ℕ → Reads (ℕ × (ℕ × (Slices × Statement)))
parts_at v k =
    read_then name_at (λ sender. read_then (number_at w64) (λ slot. read_then (slices_at v) (λ q. statement_at k)))

-- reads an envelope from the front of bytes
unfoldable pub envelope_at : Reads Sent
envelope_at = read_as (read_then version_at (λ v. read_then kind_at (λ k. parts_at v k))) envelope_of

-- reads an envelope that all of the bytes spell
unfoldable pub decoding : List ℕ → Result Sent Fault
decoding bytes =
    if nat_lt most_bytes (length bytes) then Err Limit
    else (envelope_at bytes >>= λ e. if length e.1 == 0 then Ok e.0 else Err TrailingBytes)
