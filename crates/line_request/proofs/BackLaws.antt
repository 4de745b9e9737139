-- What is printed of words is read back as their envelope, and what is printed of bytes as these bytes.
use Rattle.std.proofs.Common.{◌≡◌, ◌≢◌, ◌∙◌, ℕ, zero, suc, ◌^◌, ◌<◌, Bool, true, false, List, [], ◌∷◌, ◌++◌, length, refl, sym, ap, subst, arith, ne_eqb}
use Rattle.std.specs.Prelude.{◌==◌, slice_index, Option, Some, None, IfSome, unwrap_or}
use Rattle.std.specs.List.{AllByRecursion, flat_map}
use Rattle.std.specs.Int.{w16, w32, w64, to_be_bytes}
use Rattle.std.specs.Fmt.{decimal}
use Rattle.hex.specs.Hex.{IsBytes, encode_lower, lower_digits}
use Rattle.hex.proofs.HexLemmas.{length-encode_with}
use Rattle.scp_types.specs.Statements.{IsEnvelope, Sent}
use Rattle.scp_types.specs.Trees.{Slices}
use Rattle.scp_types.specs.declared.ballot.Ballot.{Ballot}
use Rattle.scp_types.specs.declared.statement.Statement.{Statement}
use Rattle.scp_types.specs.declared.statement.Statement.TheVariants.{Nominate, Prepare, Commit, Externalize}
use Rattle.line_script.specs.Script.{Bytes}
use Rattle.line_script.specs.Names.{octets_in, text_of_name}
use Rattle.line_script.specs.Printed.{text_of_slices, text_of_statement}
use Rattle.line_script.specs.Slices.{AreSlices}
use Rattle.line_script.specs.Statements.{HasBytes}
use Rattle.line_script.proofs.DigitLaws.{digits_read, octets_fit}
use Rattle.line_script.proofs.NamesRead.{names_read_back}
use Rattle.line_script.proofs.SlicesPrinted.{number_read_back, slices_read_back}
use Rattle.line_script.proofs.StatementsRead.{statements_read_back}
use Rattle.scp_codec.specs.Spelling.{Spells, ballot, body, kind, name, nominated_values, optional, slices, spelling, value, version_of}
use Rattle.scp_codec.proofs.EnvelopeLaws.{fault_is, is_read}
use Rattle.scp_codec.proofs.FieldLaws.{ok_is}
use Rattle.line_request.specs.Lines.{AreSaid, IsRead, saying_in}
use Rattle.line_request.specs.TranslatedLines.{line_of_bytes, line_of_words}
use Rattle.line_request.specs.Translations.{DecodesBack, DecodesTo, EncodesAgain, EncodesBack, IsEncoded, IsTranslated}
use Rattle.line_request.specs.Translations.IsTranslated.{envelope, fault}
use Rattle.line_request.proofs.DigitLaws.{octets_back}
use Rattle.line_request.proofs.FieldLaws.{words_are_fields}

-- ---- the values of a statement are bytes where its spelling is

parts_fit : (xs ys : Bytes) → IsBytes (xs ++ ys) → IsBytes xs × IsBytes ys
parts_fit [] ys h = (λ i. omega arith, h)
parts_fit (x ∷ xs) ys h =
    let rest = parts_fit xs ys (λ i. h (suc i)) in
    (go rest.0, rest.1)
  where
    go : IsBytes xs → (i : ℕ) → slice_index (x ∷ xs) i < 256
    go k zero = h 0
    go k (suc i) = k i

front_fits : (xs ys : Bytes) → IsBytes (xs ++ ys) → IsBytes xs
front_fits xs ys h = (parts_fit xs ys h).0

back_fits : (xs ys : Bytes) → IsBytes (xs ++ ys) → IsBytes ys
back_fits xs ys h = (parts_fit xs ys h).1

values_fit : (vs : List Bytes) → IsBytes (flat_map value vs) → AllByRecursion IsBytes vs
values_fit [] h = tt
values_fit (v ∷ vs) h =
    let both = parts_fit (value v) (flat_map value vs) h in
    (back_fits (to_be_bytes w16 (length v)) v both.0, values_fit vs both.1)

ballot_fits : (b : Ballot) → IsBytes (ballot b) → IsBytes b.value
ballot_fits b h = back_fits (to_be_bytes w16 (length b.value)) b.value (back_fits (to_be_bytes w32 b.counter) (value b.value) h)

optional_fits : (p : Option Ballot) → IsBytes (optional p) → IfSome p (λ b. IsBytes b.value)
optional_fits None h = tt
optional_fits (Some b) h = ballot_fits b (λ i. h (suc i))

body_fits : (s : Statement) → IsBytes (body s) → HasBytes s
body_fits (Nominate voted accepted) h =
    let both = parts_fit (nominated_values voted) (nominated_values accepted) h in
    (values_fit voted (λ i. both.0 (suc i)), values_fit accepted (λ i. both.1 (suc i)))
body_fits (Prepare b p a g c) h =
    let more = front_fits (ballot b ++ optional p ++ to_be_bytes w32 a ++ to_be_bytes w32 g) (to_be_bytes w32 c) h in
    let some = front_fits (ballot b ++ optional p) (to_be_bytes w32 a) (front_fits (ballot b ++ optional p ++ to_be_bytes w32 a) (to_be_bytes w32 g) more) in
    let both = parts_fit (ballot b) (optional p) some in
    (ballot_fits b both.0, optional_fits p both.1)
body_fits (Commit b p g c) h =
    let more = front_fits (ballot b ++ to_be_bytes w32 p ++ to_be_bytes w32 g) (to_be_bytes w32 c) h in
    ballot_fits b (front_fits (ballot b) (to_be_bytes w32 p) (front_fits (ballot b ++ to_be_bytes w32 p) (to_be_bytes w32 g) more))
body_fits (Externalize b g) h = ballot_fits b (front_fits (ballot b) (to_be_bytes w32 g) h)

spelled_fits : (e : Sent) → IsBytes (spelling e) → HasBytes e.body
spelled_fits e h =
    body_fits e.body (back_fits (version_of e.slices ∷ kind e.body ∷ name e.sender ++ to_be_bytes w64 e.slot ++ slices e.slices) (body e.body) h)

-- ---- words are read back

said_again : (e : Sent) → IsEnvelope e → HasBytes e.body → saying_in (text_of_name e.sender) (decimal e.slot) (text_of_statement e.body) ≡ Some (e.sender, e.slot, e.body)
said_again e h k =
    rw (names_read_back e.sender h.sender, number_read_back e.slot (2 ^ 64) h.slot h.slot, statements_read_back e.body h.widths k) refl

triples : {A B C : Type 0} (a p : A) (b q : B) (c r : C) → ◌≡◌ {A = Option (A × B × C)} (Some (a, b, c)) (Some (p, q, r)) → (a ≡ p) × (b ≡ q) × (c ≡ r)
triples {A} {B} {C} a p b q c r e =
    let one : ◌≡◌ {A = A × B × C} (a, b, c) (p, q, r) = ap (λ o. unwrap_or o (a, b, c)) e in
    (ap (λ t. t.0) one, ap (λ t. t.1) one, ap (λ t. t.2) one)

abbrev spelled : ℕ → ℕ → Slices → Statement → Bytes
spelled u i q s = spelling (record { sender = u; slot = i; slices = q; body = s })

-- the words that are printed of an envelope spell no other
same_envelope : (e d : Sent) → IsEnvelope e → HasBytes e.body
    → saying_in (text_of_name e.sender) (decimal e.slot) (text_of_statement e.body) ≡ Some (d.sender, d.slot, d.body)
    → AreSlices (text_of_slices e.slices) (Some d.slices) → spelling d ≡ spelling e
same_envelope e d h k said are =
    let parts = triples d.sender e.sender d.slot e.slot d.body e.body (sym said ∙ said_again e h k) in
    let one : Some d.slices ≡ Some e.slices = slices_read_back e.slices h.slices (Some d.slices) are in
    let slices_one : d.slices ≡ e.slices = cc in
    let whole : spelled d.sender d.slot d.slices d.body ≡ spelled e.sender e.slot e.slices e.body = rw (parts.0, parts.1, slices_one, parts.2) refl in
    whole

encodes_again : (e : Sent) (bytes : Bytes) → Spells bytes e → IsBytes bytes → EncodesAgain e (line_of_bytes bytes)
encodes_again e bytes spells fits (Some line) (found, (d, spelled, said, are), is) =
    let k = spelled_fits e (subst IsBytes spells.text fits) in
    let one : found ≡ bytes = spelled.text ∙ same_envelope e d spells.envelope k said are ∙ sym spells.text in
    ap Some (is ∙ ap line_of_bytes one)
encodes_again e bytes spells fits None none =
    let k = spelled_fits e (subst IsBytes spells.text fits) in
    let refused : AreSlices (text_of_slices e.slices) None = λ q spelled nested.
    let one : Some q ≡ Some e.slices = slices_read_back e.slices spells.envelope.slices (Some q) (spelled, nested) in
    let is : q ≡ e.slices = cc in
    none (line_of_bytes bytes) (bytes, (e, spells, said_again e spells.envelope k, subst (λ s. AreSlices (text_of_slices e.slices) (Some s)) is (spelled, nested)), refl) in
    let never = slices_read_back e.slices spells.envelope.slices None refused in
    cc

-- ---- digits are read back

-- the spelling of an envelope has bytes, and so its digits are a word of them
octets_again : (bytes : Bytes) (e : Sent) → Spells bytes e → IsBytes bytes → octets_in (encode_lower bytes) ≡ Some bytes
octets_again bytes e spells fits =
    let two : 1 < length bytes = subst (λ bs. 1 < length bs) (sym spells.text) (omega arith) in
    let some : (length (encode_lower bytes) == 0) ≡ false = ne_eqb (length (encode_lower bytes)) 0 (omega (arith, length-encode_with lower_digits bytes)) in
    let long : (length (encode_lower bytes) == 1) ≡ false = ne_eqb (length (encode_lower bytes)) 1 (omega (arith, length-encode_with lower_digits bytes)) in
    rw (some, long) (digits_read bytes fits)

told_once : (bytes line : Bytes) (e : Sent) (is_fault : Bool) → Spells bytes e → IsBytes bytes → IsTranslated bytes is_fault line
    → ◌≡◌ {A = Bool × Bytes} (is_fault, line) (false, line_of_words e)
told_once bytes line e false spells fits (envelope d spelled) =
    let one : d ≡ e = ok_is d e (sym (is_read bytes d spelled) ∙ is_read bytes e spells) in
    ap (λ x. (false, line_of_words x)) one
told_once bytes line e true spells fits (fault f shown) =
    let never = sym (fault_is bytes f fits shown) ∙ is_read bytes e spells in
    cc

decodes_again : (bytes : Bytes) (e : Sent) → Spells bytes e → IsBytes bytes → DecodesTo (encode_lower bytes) (line_of_words e)
decodes_again bytes e spells fits (Some (is_fault, line)) (found, read, told) =
    let both : Some found ≡ Some bytes = sym read ∙ octets_again bytes e spells fits in
    let one : found ≡ bytes = cc in
    ap Some (told_once bytes line e is_fault spells fits (subst (λ bs. IsTranslated bs is_fault line) one told))
decodes_again bytes e spells fits None none =
    absurd (none (false, line_of_words e) (bytes, octets_again bytes e spells fits, envelope e spells))

-- ---- the way back

pub decodes_back : (from slot slices statement bytes line : Bytes) → AreSaid bytes from slot slices statement → line ≡ line_of_bytes bytes → IsBytes bytes
    → DecodesBack from slot slices statement line
decodes_back from slot slices statement bytes line (e, spells, said, are) is fits = record {
  digits = encode_lower bytes;
  envelope = e;
  digits_alone = is;
  said = said;
  slices_said = are;
  back = decodes_again bytes e spells fits;
  again = subst (EncodesAgain e) (sym is) (encodes_again e bytes spells fits);
}

pub encodes_back : (bytes digits line : Bytes) (is_fault : Bool) → IsTranslated bytes is_fault line → octets_in digits ≡ Some bytes → is_fault ≡ false → EncodesBack digits line
encodes_back bytes digits line false (envelope e spells) read is =
    let fits = octets_fit digits bytes read in
    let some : bytes ≢ [] = λ none. let never : [] ≡ spelling e = sym none ∙ spells.text in cc in
    let same = octets_back digits bytes read some in
    record {
      envelope = e;
      words = refl;
      fields = words_are_fields e spells.envelope (spelled_fits e (subst IsBytes spells.text fits));
      back = subst (λ ds. EncodesAgain e (ds ++ 10 ∷ [])) same (encodes_again e bytes spells fits);
    }
encodes_back bytes digits line true (fault f shown) read is = cc

-- ---- what a call answers

-- words that spell nothing are refused
pub nothing_encoded : (from slot slices statement : Bytes) (o : Option Bytes) → IsRead (λ bytes. AreSaid bytes from slot slices statement) o → o ≡ None
    → (line : Bytes) → IsEncoded from slot slices statement line → ⊥
nothing_encoded from slot slices statement (Some bytes) read none line found = cc
nothing_encoded from slot slices statement None read none line found = read found.0 found.1
