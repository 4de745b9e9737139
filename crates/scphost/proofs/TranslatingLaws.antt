-- What is printed of envelopes in words and as bytes.
use Rattle.std.proofs.Common.{◌≡◌, Bool, false, Option, Err, inl, inr, subst}
use Rattle.std.specs.Prelude.{string_bytes}
use Rattle.std.proofs.KnownBytes.{Keeps-refl}
use Rattle.line_script.specs.Script.{Bytes}
use Rattle.line_script.specs.declared.run.Stop.TheVariants as stop
use Rattle.line_request.specs.Translations.{DecodesBack, EncodesBack, IsDecoded, IsEncoded}
use Rattle.line_run.specs.declared.answer.Answer.{Answer}
use Rattle.scphost_words.specs.declared.call.EncodeCall.{EncodeCall}
use Rattle.scphost.specs.Printing.{HasAnswered, IsPrinted}
use Rattle.scphost.specs.Stops.{End}
use Rattle.scphost.specs.Translating.{IsDecoding, IsEncoding, StopsDecoding, StopsEncoding}

-- what is so of four words is so of the same words
same_words : (P : Bytes → Bytes → Bytes → Bytes → Type 0) (f i q s from slot slices statement : Bytes)
    → f ≡ from → i ≡ slot → q ≡ slices → s ≡ statement → P f i q s → P from slot slices statement
same_words P f i q s from slot slices statement a b c d p =
    subst (λ x. P x slot slices statement) a (subst (λ x. P f x slices statement) b (subst (λ x. P f i x statement) c (subst (P f i q) d p)))

pub has-encoded : (f i q s : Bytes) (asked : EncodeCall) (old new : Option Bytes) (end : End) (a : Answer)
    → f ≡ asked.from → i ≡ asked.slot → q ≡ asked.slices → s ≡ asked.statement → a.differs ≡ false
    → IsEncoded f i q s (string_bytes a.text) → DecodesBack f i q s (string_bytes a.text) → IsPrinted a old new end
    → HasAnswered (IsEncoding asked) (StopsEncoding asked) old new end
has-encoded f i q s asked old new end a e g h k differs encoded back printed = inl (
  a,
  record {
    differs = differs;
    encoded = same_words (λ f i q s. IsEncoded f i q s (string_bytes a.text)) f i q s _ _ _ _ e g h k encoded;
    back = same_words (λ f i q s. DecodesBack f i q s (string_bytes a.text)) f i q s _ _ _ _ e g h k back;
  },
  printed,
)

-- four words spell no envelope
pub none-encoded : (f i q s : Bytes) (asked : EncodeCall) (old : Option Bytes) (end : End)
    → f ≡ asked.from → i ≡ asked.slot → q ≡ asked.slices → s ≡ asked.statement → ((line : Bytes) → ¬ IsEncoded f i q s line)
    → end ≡ Err stop.CannotRead → HasAnswered (IsEncoding asked) (StopsEncoding asked) old old end
none-encoded f i q s asked old end e g h k none is =
    let none' = same_words (λ f i q s. (line : Bytes) → ¬ IsEncoded f i q s line) f i q s _ _ _ _ e g h k none in
    inr (inl (stop.CannotRead, none', is, Keeps-refl old))

pub has-decoded : (word digits : Bytes) (old new : Option Bytes) (end : End) (a : Answer) → word ≡ digits
    → IsDecoded word a.differs (string_bytes a.text) → (a.differs ≡ false → EncodesBack word (string_bytes a.text)) → IsPrinted a old new end
    → HasAnswered (IsDecoding digits) (StopsDecoding digits) old new end
has-decoded word digits old new end a e decoded back printed =
    subst (λ w. HasAnswered (IsDecoding w) (StopsDecoding w) old new end) e
    (inl (a, record { decoded = decoded; back = back }, printed))

-- a word spells no bytes
pub none-decoded : (word digits : Bytes) (old : Option Bytes) (end : End) → word ≡ digits
    → ((d : Bool × Bytes) → ¬ IsDecoded word d.0 d.1) → end ≡ Err stop.CannotRead
    → HasAnswered (IsDecoding digits) (StopsDecoding digits) old old end
none-decoded word digits old end e none is =
    subst (λ w. HasAnswered (IsDecoding w) (StopsDecoding w) old old end) e
    (inr (inl (stop.CannotRead, none, is, Keeps-refl old)))
