-- What stands in a writer after some of the lines.
use Rattle.std.specs.Prelude.{◌≡◌, ℕ, ◌+◌, ◌<◌, ◌≤◌, List, [], ◌∷◌, ◌++◌, length, map, take, codes}
use denote.Ref.{Bor}
use Rattle.std.proofs.Common.{◌∙◌, sym, ap, refl, append_assoc, get_or}
use Rattle.std.proofs.lemmas.List.{append-nil, take_all, get_or_default}
use Rattle.cs_base.specs.Fields.{each}
use Rattle.cs_base.specs.Lines.{views}
use Rattle.cs_base.proofs.Written.{each_more, each-append}
use Rattle.cs_tx_value.specs.Reading.{Begins}
use Rattle.cs_sched.specs.declared.schedule.Schedule.{Schedule}
use Rattle.cs_text.specs.Printed.{line_text}
use Rattle.cs_sched.specs.Printed.{head_lines, liar_lines, contract_lines, genesis_lines, printed_events, schedule_text}

pub each-map : {X Y : Type 0} (write : Y → List ℕ) (change : X → Y) (xs : List X) → each write (map change xs) ≡ each (λ x. write (change x)) xs
each-map write change [] = refl
each-map write change (x ∷ xs) = ap (λ text. write (change x) ++ text) (each-map write change xs)

-- nothing was written
pub unchanged : (text : List ℕ) → Begins text text
unchanged text = record { more = []; is = sym (append-nil text) }

-- what goes on where something ends that went on itself
pub later : (new mid old part : List ℕ) → Begins new mid → mid ≡ old ++ part → Begins new old
later new mid old part more is = record {
  more = part ++ more.more;
  is = more.is ∙ ap (λ text. text ++ more.more) is ∙ append_assoc old part more.more;
}

-- a field of a line
abbrev pub field_text : Bor (List ℕ) → List ℕ
field_text field = 32 ∷ field.now

-- one more field
pub field_more : (fields : List (Bor (List ℕ))) (i : ℕ) (default : Bor (List ℕ)) (start out spaced new : List ℕ) → i < length fields
    → out ≡ start ++ each field_text (take i fields) → spaced ≡ out ++ 32 ∷ [] → new ≡ spaced ++ (get_or fields i default).now
    → new ≡ start ++ each field_text (take (i + 1) fields)
field_more fields i default start out spaced new within so_far space wrote =
    let field = get_or fields i default in
    each_more field_text fields i field start out new within (get_or_default fields i default field within) so_far
    (wrote ∙ ap (λ text. text ++ field.now) space ∙ append_assoc out (32 ∷ []) field.now)

-- the whole line
pub line_done : (word old out new : List ℕ) (fields : List (Bor (List ℕ))) (i : ℕ) → length fields ≤ i → out ≡ (old ++ word) ++ each field_text (take i fields) → new ≡ out ++ 10 ∷ []
    → new ≡ old ++ line_text (word ∷ views fields)
line_done word old out new fields i all so_far ended =
    let spaced = each (λ field. 32 ∷ field) (views fields) in
    ended ∙ ap (λ text. text ++ 10 ∷ []) (so_far ∙ ap (λ (taken : List (Bor (List ℕ))). (old ++ word) ++ each field_text taken) (take_all i fields all) ∙ ap (λ text. (old ++ word) ++ text) (sym (each-map (λ field. 32 ∷ field) (λ field. field.now) fields)))
    ∙ append_assoc (old ++ word) spaced (10 ∷ []) ∙ append_assoc old word (spaced ++ 10 ∷ [])

-- all lines of a list
pub lines_done : {X : Type 0} (line : X → List (List ℕ)) (xs : List X) (i : ℕ) (old out : List ℕ) → length xs ≤ i → out ≡ old ++ each (λ x. line_text (line x)) (take i xs)
    → out ≡ old ++ each line_text (map line xs)
lines_done line xs i old out all is =
    is ∙ ap (λ taken. old ++ each (λ x. line_text (line x)) taken) (take_all i xs all) ∙ ap (λ text. old ++ text) (sym (each-map line_text line xs))

-- one more line
pub line_more : {X : Type 0} (line : X → List (List ℕ)) (xs : List X) (i : ℕ) (default : X) (old out new : List ℕ) → i < length xs → out ≡ old ++ each (λ x. line_text (line x)) (take i xs)
    → new ≡ out ++ line_text (line (get_or xs i default)) → new ≡ old ++ each (λ x. line_text (line x)) (take (i + 1) xs)
line_more line xs i default old out new within so_far wrote =
    let x = get_or xs i default in
    each_more (λ x. line_text (line x)) xs i x old out new within (get_or_default xs i default x within) so_far wrote

-- what stands behind another part
pub behind : (old front mid back new : List ℕ) → mid ≡ old ++ front → new ≡ mid ++ back → new ≡ old ++ (front ++ back)
behind old front mid back new first second = second ∙ ap (λ text. text ++ back) first ∙ append_assoc old front back

-- the parts of a text, in the order of its lines
pub parts_text : (write : List (List ℕ) → List ℕ) (head liars contracts genesis : List (List (List ℕ))) (run : List (List ℕ)) (events : List (List (List ℕ))) (end : List (List ℕ))
    → (((((each write head ++ each write liars) ++ each write contracts) ++ each write genesis) ++ write run) ++ each write events) ++ write end
    ≡ each write (head ++ (liars ++ (contracts ++ (genesis ++ (run ∷ (events ++ end ∷ []))))))
parts_text write head liars contracts genesis run events end = simp (each-append, append_assoc, append-nil) refl

-- what stands in front of the last line
abbrev pub front_text : Schedule → List ℕ
front_text schedule =
    ((((each line_text (head_lines schedule.config schedule.master) ++ each line_text (liar_lines schedule.liars)) ++ each line_text (contract_lines schedule.contracts))
    ++ each line_text (genesis_lines schedule.genesis)) ++ line_text (codes "run" ∷ [])) ++ each line_text (printed_events schedule.events)

pub front_done : (schedule : Schedule) (old head liars contracts genesis run events : List ℕ)
    → head ≡ old ++ each line_text (head_lines schedule.config schedule.master)
    → liars ≡ head ++ each line_text (liar_lines schedule.liars)
    → contracts ≡ liars ++ each line_text (contract_lines schedule.contracts)
    → genesis ≡ contracts ++ each line_text (genesis_lines schedule.genesis)
    → run ≡ genesis ++ line_text (codes "run" ∷ [])
    → events ≡ run ++ each line_text (printed_events schedule.events)
    → events ≡ old ++ front_text schedule
front_done schedule old head liars contracts genesis run events h l c g r e =
    behind old _ run _ events (behind old _ genesis _ run (behind old _ contracts _ genesis (behind old _ liars _ contracts (behind old _ head _ liars h l) c) g) r) e

pub schedule_done : (schedule : Schedule) (old front new : List ℕ) → front ≡ old ++ front_text schedule → new ≡ front ++ line_text (codes "end" ∷ []) → new ≡ old ++ schedule_text schedule
schedule_done schedule old front new so_far ended =
    behind old (front_text schedule) front (line_text (codes "end" ∷ [])) new so_far ended
    ∙ ap (λ text. old ++ text) (parts_text line_text (head_lines schedule.config schedule.master) (liar_lines schedule.liars) (contract_lines schedule.contracts) (genesis_lines schedule.genesis) (codes "run" ∷ []) (printed_events schedule.events) (codes "end" ∷ []))
