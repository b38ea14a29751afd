-- What is kept of the datagrams stays true as they are sent and come.
use Rattle.std.proofs.Common.{◌≡◌, ℕ, zero, suc, ◌+◌, ◌<◌, ◌≤◌, true, false, List, [], ◌∷◌, ◌++◌, length, get_or, slice_get, slice_set, Some, None, bytes_eq, refl, ap, sym, subst, ◌∙◌, arith}
use Rattle.cs_node_rules.specs.Lines.{Parcel}
use Rattle.cs_replay_rules.specs.Play.{arrived, size_of, most_sent, first_left}
use Rattle.indexmap.specs.IndexMap.{insert_entry}
use Rattle.cs_replay_play.specs.Post.{HaveArrived, IsKeptPost, tail_of}
use Rattle.cs_replay_play.proofs.Tails.{all-push, all-later, all-arrived}

-- ---- sizes

pub size-push : (parcels : List Parcel) (parcel : Parcel) → size_of (parcels ++ parcel ∷ []) ≡ size_of parcels + length parcel.bytes
size-push [] parcel = omega arith
size-push (first ∷ parcels) parcel = omega (arith, size-push parcels parcel)

size-arrived : (parcels : List Parcel) (k : ℕ) (parcel : Parcel) → slice_get parcels k ≡ Some parcel → size_of (slice_set parcels k (arrived parcel)) ≡ size_of parcels
size-arrived [] k parcel is = refl
size-arrived (first ∷ parcels) zero parcel is =
    let same : first ≡ parcel = let q : Some first ≡ Some parcel = is in cc in
    ap (λ p. length p.bytes + size_of parcels) (sym same)
size-arrived (first ∷ parcels) (suc k) parcel is = ap (λ n. length first.bytes + n) (size-arrived parcels k parcel is)

-- ---- the first of them

front-push : (count : ℕ) (parcels more : List Parcel) → HaveArrived count parcels → HaveArrived count (parcels ++ more)
front-push zero parcels more front = tt
front-push (suc count) [] more front = absurd front
front-push (suc count) (first ∷ parcels) more front = (front.0, front-push count parcels more front.1)

front-arrived : (count : ℕ) (parcels : List Parcel) (k : ℕ) (parcel : Parcel) → HaveArrived count parcels → HaveArrived count (slice_set parcels k (arrived parcel))
front-arrived zero parcels k parcel front = tt
front-arrived (suc count) [] k parcel front = absurd front
front-arrived (suc count) (first ∷ parcels) zero parcel front = (refl, front.1)
front-arrived (suc count) (first ∷ parcels) (suc k) parcel front = (front.0, front-arrived count parcels k parcel front.1)

front-next : (count : ℕ) (parcels : List Parcel) (parcel : Parcel) → HaveArrived count parcels → count < length parcels → parcel ≡ get_or parcels count parcel → parcel.arrived ≡ true → HaveArrived (suc count) parcels
front-next zero [] parcel front within is came = absurd (omega arith)
front-next zero (first ∷ parcels) parcel front within is came = (ap (λ p. p.arrived) (sym is) ∙ came, tt)
front-next (suc count) [] parcel front within is came = absurd front
front-next (suc count) (first ∷ parcels) parcel front within is came = (front.0, front-next count parcels parcel front.1 (omega arith) is came)

-- one more of them came
pub front-more : (count : ℕ) (parcels : List Parcel) (parcel : Parcel) → HaveArrived count parcels → count < length parcels → parcel ≡ get_or parcels count parcel → parcel.arrived ≡ true → HaveArrived (count + 1) parcels
front-more count parcels parcel front within is came =
    let same : suc count ≡ count + 1 = omega arith in
    subst (λ n. HaveArrived n parcels) same (front-next count parcels parcel front within is came)

left-from : (number count : ℕ) (parcels : List Parcel) (parcel : Parcel) → HaveArrived count parcels → count < length parcels → parcel ≡ get_or parcels count parcel → parcel.arrived ≡ false
    → first_left number parcels ≡ Some (number + count)
left-from number zero [] parcel front within is waits = absurd (omega arith)
left-from number zero (first ∷ parcels) parcel front within is waits =
    let here : first.arrived ≡ false = ap (λ p. p.arrived) (sym is) ∙ waits in
    let same : number ≡ number + 0 = omega arith in
    rw here (ap Some same)
left-from number (suc count) [] parcel front within is waits = absurd front
left-from number (suc count) (first ∷ parcels) parcel front within is waits =
    let same : suc number + count ≡ number + suc count = omega arith in
    rw front.0 (left-from (suc number) count parcels parcel front.1 (omega arith) is waits ∙ ap Some same)

-- the next one is the first that is left
pub left-next : (count : ℕ) (parcels : List Parcel) (parcel : Parcel) → HaveArrived count parcels → count < length parcels → parcel ≡ get_or parcels count parcel → parcel.arrived ≡ false → first_left 0 parcels ≡ Some count
left-next count parcels parcel front within is waits =
    let same : 0 + count ≡ count = omega arith in
    left-from 0 count parcels parcel front within is waits ∙ ap Some same

none-from : (number count : ℕ) (parcels : List Parcel) → HaveArrived count parcels → length parcels ≤ count → first_left number parcels ≡ None
none-from number zero [] front within = refl
none-from number zero (first ∷ parcels) front within = absurd (omega arith)
none-from number (suc count) [] front within = refl
none-from number (suc count) (first ∷ parcels) front within = rw front.0 (none-from (suc number) count parcels front.1 (omega arith))

-- none is left
pub left-none : (count : ℕ) (parcels : List Parcel) → HaveArrived count parcels → length parcels ≤ count → first_left 0 parcels ≡ None
left-none count parcels front within = none-from 0 count parcels front within

-- ---- what is kept

pub kept-push : (parcels : List Parcel) (size delivered : ℕ) (numbers : List (List ℕ × ℕ)) (parcel : Parcel) (number : ℕ) → IsKeptPost parcels size delivered numbers → size + length parcel.bytes ≤ most_sent
    → IsKeptPost (parcels ++ parcel ∷ []) (size + length parcel.bytes) delivered (insert_entry bytes_eq numbers (tail_of parcel.bytes) number)
kept-push parcels size delivered numbers parcel number kept within = record {
  counted = ap (λ n. n + length parcel.bytes) kept.counted ∙ sym (size-push parcels parcel);
  within = within;
  front = front-push delivered parcels (parcel ∷ []) kept.front;
  noted = all-push numbers (tail_of parcel.bytes) number parcels parcel kept.noted refl;
}

-- the number was noted, and the datagram wasn't sent
pub kept-noted : (parcels : List Parcel) (size delivered : ℕ) (numbers : List (List ℕ × ℕ)) (tail : List ℕ) (number : ℕ) → IsKeptPost parcels size delivered numbers → IsKeptPost parcels size delivered (insert_entry bytes_eq numbers tail number)
kept-noted parcels size delivered numbers tail number kept = record {
  counted = kept.counted;
  within = kept.within;
  front = kept.front;
  noted = all-later numbers tail number parcels kept.noted;
}

pub kept-arrived : (parcels : List Parcel) (size delivered k : ℕ) (numbers : List (List ℕ × ℕ)) (parcel : Parcel) → IsKeptPost parcels size delivered numbers → slice_get parcels k ≡ Some parcel
    → IsKeptPost (slice_set parcels k (arrived parcel)) size delivered numbers
kept-arrived parcels size delivered k numbers parcel kept is = record {
  counted = kept.counted ∙ sym (size-arrived parcels k parcel is);
  within = kept.within;
  front = front-arrived delivered parcels k parcel kept.front;
  noted = all-arrived numbers parcels k parcel kept.noted is;
}

pub get-read : {A : Type 0} (xs : List A) (k : ℕ) (x : A) → k < length xs → x ≡ get_or xs k x → slice_get xs k ≡ Some x
get-read {A} [] k x h e = absurd (omega arith)
get-read {A} (y ∷ xs) zero x h e = ap Some (sym e)
get-read {A} (y ∷ xs) (suc k) x h e = get-read xs k x (omega arith) e
