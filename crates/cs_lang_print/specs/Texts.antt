-- Printed contracts.
use Rattle.std.specs.Prelude.{ℕ, Bool, List, [], ◌∷◌, ◌++◌, codes, if◌then◌else◌}
use Rattle.cs_lang.specs.declared.tree.Field.{Field}
use Rattle.cs_lang.specs.declared.tree.Slot.{Slot}
use Rattle.cs_lang.specs.declared.tree.TypeDef.{TypeDef}
use Rattle.cs_lang.specs.declared.tree.Method.{Method}
use Rattle.cs_lang.specs.declared.tree.ContractTree.{ContractTree}
use Rattle.cs_lang_print.specs.Words.{word, ending, each_text, with_commas}
use Rattle.cs_lang_print.specs.Expressions.{kind_text}
use Rattle.cs_lang_print.specs.Statements.{name_text, block_text, statements_text}

abbrev pub field_text : Field → List ℕ
field_text f = name_text f.name ++ (word (codes ":") ++ kind_text f.kind)

abbrev pub star_text : Bool → List ℕ
star_text many = if many then word (codes "*") else []

abbrev pub slot_text : Slot → List ℕ
slot_text s = name_text s.name ++ (word (codes ":") ++ (name_text s.object ++ star_text s.many))

-- what stands behind a word, which is left out where nothing does
abbrev pub section_text : {X : Type 0} → List ℕ → (X → List ℕ) → List X → List ℕ
section_text first text [] = []
section_text first text (x ∷ xs) = word first ++ with_commas text (x ∷ xs)

abbrev pub type_text : TypeDef → List ℕ
type_text t =
    word (codes "type") ++ (name_text t.name ++ (word (codes "(")
    ++ (with_commas field_text t.fields ++ (word (codes ")") ++ ending (codes ";")))))

abbrev pub head_text : Method → List ℕ
head_text m =
    section_text (codes "consumes") slot_text m.consumes ++ (section_text (codes "reads") slot_text m.reads
    ++ (section_text (codes "takes") field_text m.takes ++ (section_text (codes "creates") slot_text m.creates
    ++ section_text (codes "returns") field_text m.returns)))

abbrev pub body_text : Method → List ℕ
body_text m =
    ending (codes "{") ++ (word (codes "procedure") ++ (block_text (statements_text m.procedure)
    ++ (word (codes "check") ++ (block_text (statements_text m.check) ++ ending (codes "}")))))

abbrev pub method_text : Method → List ℕ
method_text m = word (codes "method") ++ (name_text m.name ++ (head_text m ++ body_text m))

-- the text of a contract
unfoldable pub contract_text : ContractTree → List ℕ
contract_text c = each_text type_text c.types ++ each_text method_text c.methods
