-- What stands in each file after one was put into a list of files.
use Rattle.std.proofs.Common.{◌≡◌, ◌≢◌, ℕ, zero, suc, ◌<◌, true, false, nat_lt, List, [], ◌∷◌, ◌++◌, length, Some, None, Vec, Global, string_bytes, get_or, set, sym, ◌∙◌, inl, inr, arith}
use Rattle.std.proofs.lemmas.Bool.{cases_Bool}
use Rattle.std.proofs.lemmas.Bool.Decides.{nat_tests}
use Rattle.std.proofs.lemmas.Slice.Eq.{bytes_eq-Decides}
use Rattle.std.specs.List.{position, position_or_len}
use Rattle.std.proofs.lemmas.List.Sums.{fails_before_first}
use Rattle.cs_io.specs.Files.{File, is_file_of, content_in}

-- the file of another name at hand is passed over
other_passed : (file : File) (files : List File) (name : List ℕ) → is_file_of name file ≡ false → content_in (file ∷ files) name ≡ content_in files name
other_passed file files name unlike = rw unlike

first_found : (file : File) (files : List File) (name : List ℕ) → is_file_of name file ≡ true → content_in (file ∷ files) name ≡ Some file.1.items
first_found file files name named = rw named

-- a file has one name
one_name : (file : File) (name other : List ℕ) → is_file_of name file ≡ true → other ≢ name → is_file_of other file ≡ false
one_name file name other named differs =
    elim (cases_Bool (is_file_of other file)) [
      | inl too ↦ absurd (differs (sym ((bytes_eq-Decides (string_bytes file.0) other).0 too) ∙ (bytes_eq-Decides (string_bytes file.0) name).0 named))
      | inr unlike ↦ unlike
    ]

-- at the first file of the name the new content is found
pub replaced : (files : List File) (i : ℕ) (d : File) (content : Vec ℕ Global) (name : List ℕ) → i < length files → is_file_of name (get_or files i d) ≡ true
    → ((k : ℕ) → k < i → is_file_of name (get_or files k d) ≡ false) → content_in (set files i ((get_or files i d).0, content)) name ≡ Some content.items
replaced [] i d content name within named before = absurd (omega arith)
replaced (x ∷ xs) zero d content name within named before = first_found (x.0, content) xs name named
replaced (x ∷ xs) (suc i) d content name within named before =
    other_passed x (set xs i ((get_or xs i d).0, content)) name (before 0 (omega arith))
    ∙ replaced xs i d content name (omega arith) named (λ k below. before (suc k) (omega arith))

-- and in other files nothing is changed
pub others_kept : (files : List File) (i : ℕ) (d : File) (content : Vec ℕ Global) (name other : List ℕ) → i < length files → is_file_of name (get_or files i d) ≡ true
    → other ≢ name → content_in (set files i ((get_or files i d).0, content)) other ≡ content_in files other
others_kept [] i d content name other within named differs = absurd (omega arith)
others_kept (x ∷ xs) zero d content name other within named differs =
    let unlike = one_name x name other named differs in
    other_passed (x.0, content) xs other unlike ∙ sym (other_passed x xs other unlike)
others_kept (x ∷ xs) (suc i) d content name other within named differs =
    let later = others_kept xs i d content name other (omega arith) named differs in
    elim (cases_Bool (is_file_of other x)) [
      | inl here ↦ first_found x _ other here ∙ sym (first_found x xs other here)
      | inr unlike ↦ other_passed x _ other unlike ∙ later ∙ sym (other_passed x xs other unlike)
    ]

-- where there is no place of a name, no file has it
none_named : (files : List File) (name : List ℕ) (d : File) → position (is_file_of name) files ≡ None → (k : ℕ) → k < length files → is_file_of name (get_or files k d) ≡ false
none_named files name d none k within =
    elim (cases_Bool (nat_lt (position_or_len (is_file_of name) files) (length files))) [
      | inl some ↦ let found = rw some at none in absurd (cc)
      | inr unlike ↦ fails_before_first (is_file_of name) files k d (grind (arith, nat_tests, unlike))
    ]

appended : (files : List File) (file : File) (name : List ℕ) → ((k : ℕ) → k < length files → is_file_of name (get_or files k file) ≡ false) → is_file_of name file ≡ true
    → content_in (files ++ file ∷ []) name ≡ Some file.1.items
appended [] file name none named = first_found file [] name named
appended (x ∷ xs) file name none named =
    other_passed x (xs ++ file ∷ []) name (none 0 (omega arith)) ∙ appended xs file name (λ k within. none (suc k) (omega arith)) named

-- a file that is put behind the others is found where none of them has its name
pub added : (files : List File) (file : File) (name : List ℕ) → position (is_file_of name) files ≡ None → is_file_of name file ≡ true
    → content_in (files ++ file ∷ []) name ≡ Some file.1.items
added files file name none named = appended files file name (none_named files name file none) named

pub others_kept_before : (files : List File) (file : File) (name other : List ℕ) → is_file_of name file ≡ true → other ≢ name
    → content_in (files ++ file ∷ []) other ≡ content_in files other
others_kept_before [] file name other named differs = other_passed file [] other (one_name file name other named differs)
others_kept_before (x ∷ xs) file name other named differs =
    elim (cases_Bool (is_file_of other x)) [
      | inl here ↦ first_found x _ other here ∙ sym (first_found x xs other here)
      | inr unlike ↦ other_passed x _ other unlike ∙ others_kept_before xs file name other named differs ∙ sym (other_passed x xs other unlike)
    ]
