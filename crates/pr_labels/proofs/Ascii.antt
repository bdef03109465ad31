-- The name of a metric or of a label is ASCII, and so it is a text.
use Rattle.std.proofs.Common.{◌≡◌, ℕ, ◌<◌, ◌&&◌, List, [], ◌∷◌, true, false, Bool, arith, All, sym}
use Rattle.std.specs.Bool.{OnTrue}
use Rattle.std.specs.List.{list_all}
use Rattle.std.specs.Str.{IsUtf8}
use Rattle.std.proofs.lemmas.Str.{IsUtf8-from_ascii}
use Rattle.std.proofs.lemmas.Str.Ascii.{IsAscii-from_all}
use Rattle.std.proofs.lemmas.List.Sums.{AllPass-from_list_all}
use Rattle.std.proofs.lemmas.Bool.Decides.{nat_tests}
use Rattle.pr_words.specs.Bytes.{is_letter, is_label_byte}
use Rattle.pr_labels.specs.Names.{is_label_name, is_metric_byte, is_metric_letter, is_metric_name}

below : (b : ℕ) → is_metric_byte b ≡ true → b < 128
below b h = grind (arith, nat_tests)

first : (b : ℕ) → is_metric_letter b ≡ true → is_metric_byte b ≡ true
first b h = grind (arith, nat_tests)

both : (a b : Bool) → (a && b) ≡ true → (a ≡ true) × (b ≡ true)
both true b h = (h', h) where
  h' : true ≡ true
  h' = grind arith
both false b h = cc

all_bytes : (b : ℕ) (bytes : List ℕ) → is_metric_letter b ≡ true → list_all is_metric_byte bytes ≡ true → list_all is_metric_byte (b ∷ bytes) ≡ true
all_bytes b bytes h k = let f : is_metric_byte b ≡ true = first b h in rw f k

bytes_below : (text : List ℕ) → list_all is_metric_byte text ≡ true → All (λ b. b < 128) text
bytes_below text h = λ k d lt. below _ (AllPass-from_list_all is_metric_byte text h k d lt)

pub metric_name_is_text : (text : List ℕ) → is_metric_name text ≡ true → IsUtf8 text
metric_name_is_text [] h = cc
metric_name_is_text (b ∷ bytes) h =
    let p = both (is_metric_letter b) (list_all is_metric_byte bytes) h in
    IsUtf8-from_ascii (b ∷ bytes) (IsAscii-from_all (b ∷ bytes) (bytes_below (b ∷ bytes) (all_bytes b bytes p.0 p.1)))

by_test : (test : Bool) (text : List ℕ) → is_metric_name text ≡ test → OnTrue test (IsUtf8 text)
by_test true text h = metric_name_is_text text h
by_test false text h = tt

-- the same of what the test answered
pub text_where : (test : Bool) (text : List ℕ) → test ≡ is_metric_name text → OnTrue test (IsUtf8 text)
text_where test text h = by_test test text (sym h)

-- a label's name is a metric's name too
letter_too : (b : ℕ) → is_letter b ≡ true → is_metric_letter b ≡ true
letter_too b h = grind (arith, nat_tests)

byte_too : (b : ℕ) → is_label_byte b ≡ true → is_metric_byte b ≡ true
byte_too b h = grind (arith, nat_tests)

joined : (a b : Bool) → a ≡ true → b ≡ true → (a && b) ≡ true
joined a b h k = rw h k

bytes_too : (bytes : List ℕ) → list_all is_label_byte bytes ≡ true → list_all is_metric_byte bytes ≡ true
bytes_too [] h = h
bytes_too (b ∷ bytes) h =
    let p = both (is_label_byte b) (list_all is_label_byte bytes) h in
    joined (is_metric_byte b) (list_all is_metric_byte bytes) (byte_too b p.0) (bytes_too bytes p.1)

label_name_too : (text : List ℕ) → is_label_name text ≡ true → is_metric_name text ≡ true
label_name_too [] h = h
label_name_too (b ∷ bytes) h =
    let p = both (is_letter b) (list_all is_label_byte bytes) h in
    joined (is_metric_letter b) (list_all is_metric_byte bytes) (letter_too b p.0) (bytes_too bytes p.1)

label_by_test : (test : Bool) (text : List ℕ) → is_label_name text ≡ test → OnTrue test (IsUtf8 text)
label_by_test true text h = metric_name_is_text text (label_name_too text h)
label_by_test false text h = tt

pub label_text_where : (test : Bool) (text : List ℕ) → test ≡ is_label_name text → OnTrue test (IsUtf8 text)
label_text_where test text h = label_by_test test text (sym h)
