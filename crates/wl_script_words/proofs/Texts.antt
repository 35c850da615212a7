-- Lemmas on UTF-8 texts.
use Rattle.std.proofs.Common.{◌≡◌, ℕ, List, Some, None, refl}
use Rattle.std.specs.Str.{IsUtf8, is_utf8}
use Rattle.std.proofs.lemmas.Bool.{false_from_ne_true}
use Rattle.std.proofs.lemmas.Str.{IsUtf8-from_is_utf8, is_utf8-from_IsUtf8}
use Rattle.wl_script_words.specs.WordReading.{text_of}

pub text_of-utf8 : (text : List ℕ) → IsUtf8 text → text_of text ≡ Some text
text_of-utf8 text h = rw (is_utf8-from_IsUtf8 text h) refl

pub text_of-not_utf8 : (text : List ℕ) → (IsUtf8 text → ⊥) → text_of text ≡ None
text_of-not_utf8 text h = rw (false_from_ne_true (is_utf8 text) (λ e. h (IsUtf8-from_is_utf8 text e))) refl
