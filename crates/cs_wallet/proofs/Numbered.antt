-- Entries whose numbers are read one by one.
use Rattle.std.proofs.Common.{◌≡◌, ℕ, suc, ◌+◌, ◌<◌, ◌≤◌, List, [], ◌∷◌, ◌++◌, length, drop, drop-cons, get_or, Result, Ok, Err, refl, sym, ap, ◌∙◌, append_assoc, append-nil, add-one}
use Rattle.std.proofs.lemmas.List.{drop_all}
use Rattle.std.specs.Prelude.{pos, negsuc, ℤ, ◌==◌, not, ◌&&◌, ◌||◌}
use Rattle.cs_wallet.specs.File.{◌>>=◌, number_of, signed_in, numbered, stands, are_apart}
use Rattle.cs_wallet.specs.Fitting.{is_used, are_once}
use Rattle.cs_wallet.specs.declared.entry.Entry.{Entry}
use Rattle.cs_wallet.specs.declared.error.FileError.{FileError}

-- what was read, and what comes of the rest
abbrev pub ahead : List (ℕ × List ℕ) → Result (List (ℕ × List ℕ)) FileError → Result (List (ℕ × List ℕ)) FileError
ahead found rest = rest >>= λ xs. Ok (found ++ xs)

pub ahead_nil : (rest : Result (List (ℕ × List ℕ)) FileError) → ahead [] rest ≡ rest
ahead_nil (Ok xs) = refl
ahead_nil (Err e) = refl

drop_at : (entries : List Entry) (i : ℕ) (d : Entry) → i < length entries → drop i entries ≡ get_or entries i d ∷ drop (i + 1) entries
drop_at entries i d lt = rw (add-one, drop-cons entries i d) refl

moved : (found : List (ℕ × List ℕ)) (x : ℕ × List ℕ) (rest : Result (List (ℕ × List ℕ)) FileError) → ahead found (rest >>= λ xs. Ok (x ∷ xs)) ≡ ahead (found ++ x ∷ []) rest
moved found x (Err e) = refl
moved found x (Ok xs) = ap Ok (sym (append_assoc found (x ∷ []) xs))

abbrev step : Result (List (ℕ × List ℕ)) FileError → Result (ℕ × List ℕ) FileError → Result (List (ℕ × List ℕ)) FileError
step rest first = first >>= λ signed. rest >>= λ others. Ok (signed ∷ others)

-- one more entry has a number
pub numbered_more : (entries : List Entry) (i : ℕ) (d : Entry) (found : List (ℕ × List ℕ)) (signed : ℕ × List ℕ) → i < length entries → signed_in (get_or entries i d) ≡ Ok signed
    → ahead found (numbered (drop i entries)) ≡ ahead (found ++ signed ∷ []) (numbered (drop (i + 1) entries))
numbered_more entries i d found signed lt is =
    let rest = numbered (drop (i + 1) entries) in
    ap (λ (es : List Entry). ahead found (numbered es)) (drop_at entries i d lt)
    ∙ (ap (λ (r : Result (ℕ × List ℕ) FileError). ahead found (step rest r)) is ∙ moved found signed rest)

-- one has none
pub numbered_none : (entries : List Entry) (i : ℕ) (d : Entry) (found : List (ℕ × List ℕ)) (e : FileError) → i < length entries → signed_in (get_or entries i d) ≡ Err e
    → ahead found (numbered (drop i entries)) ≡ Err e
numbered_none entries i d found e lt is =
    let rest = numbered (drop (i + 1) entries) in
    ap (λ (es : List Entry). ahead found (numbered es)) (drop_at entries i d lt)
    ∙ ap (λ (r : Result (ℕ × List ℕ) FileError). ahead found (step rest r)) is

pub numbered_all : (entries : List Entry) (i : ℕ) (found : List (ℕ × List ℕ)) → length entries ≤ i → ahead found (numbered (drop i entries)) ≡ Ok found
numbered_all entries i found past = ap (λ (es : List Entry). ahead found (numbered es)) (drop_all i entries past) ∙ ap Ok (append-nil found)

-- ---- entries of numbers

abbrev pub entry_of : ℕ × List ℕ → Entry
entry_of signed = record { number = pos signed.0; message = signed.1 }

abbrev pub entries_of : List (ℕ × List ℕ) → List Entry
entries_of [] = []
entries_of (signed ∷ used) = entry_of signed ∷ entries_of used

pub length-entries_of : (used : List (ℕ × List ℕ)) → length (entries_of used) ≡ length used
length-entries_of [] = refl
length-entries_of (signed ∷ used) = ap suc (length-entries_of used)

pub numbered-entries_of : (used : List (ℕ × List ℕ)) → numbered (entries_of used) ≡ Ok used
numbered-entries_of [] = refl
numbered-entries_of (signed ∷ used) = ap (λ r. r >>= λ others. Ok (signed ∷ others)) (numbered-entries_of used)

stands-entries_of : (n : ℕ) (used : List (ℕ × List ℕ)) → stands (pos n) (entries_of used) ≡ is_used n used
stands-entries_of n [] = refl
stands-entries_of n (signed ∷ used) = ap (λ b. (signed.0 == n) || b) (stands-entries_of n used)

pub apart-entries_of : (used : List (ℕ × List ℕ)) → are_apart (entries_of used) ≡ are_once used
apart-entries_of [] = refl
apart-entries_of (signed ∷ used) =
    ap (λ b. not b && are_apart (entries_of used)) (stands-entries_of signed.0 used) ∙ ap (λ b. not (is_used signed.0 used) && b) (apart-entries_of used)

-- what has numbers is the entries of them
pub numbered-is : (entries : List Entry) (used : List (ℕ × List ℕ)) → numbered entries ≡ Ok used → entries ≡ entries_of used
numbered-is [] used is = let none : [] ≡ used = cc in ap entries_of none
numbered-is (entry ∷ entries) used is = by entry.number refl (numbered entries) (λ others so. numbered-is entries others so) is
  where
    by : (z : ℤ) → entry.number ≡ z → (rest : Result (List (ℕ × List ℕ)) FileError) → ((others : List (ℕ × List ℕ)) → rest ≡ Ok others → entries ≡ entries_of others) → step rest (number_of z >>= λ n. Ok (n, entry.message)) ≡ Ok used → entry ∷ entries ≡ entries_of used
    by (pos n) at (Ok others) each made =
        let same : (n, entry.message) ∷ others ≡ used = cc in
        let as_number : ℤ → Entry = λ z. record { number = z; message = entry.message } in
        let first : entry ≡ entry_of (n, entry.message) = ap as_number at in
        ap (λ (e : Entry). e ∷ entries) first ∙ (ap (λ (es : List Entry). entry_of (n, entry.message) ∷ es) (each others refl) ∙ ap entries_of same)
    by (pos n) at (Err e) each made = absurd (cc)
    by (negsuc n) at rest each made = absurd (cc)
