-- The lines of a transaction, and of a text that is none.
use Rattle.std.specs.Prelude.{ℕ, List, ◌++◌, codes}
use Rattle.std.specs.Fmt.{decimal}
use Rattle.hex.specs.Hex.{encode_lower}
use Rattle.cs_transact.specs.declared.refusal.Refusal.{Refusal}
use Rattle.cs_transact.specs.declared.refusal.Refusal.TheVariants.{Toml, Traces, Many, Field, Limit, Large, NoInput, Twice, Foreign, Dep}
use Rattle.cs_transact.specs.declared.refusal.TraceField.{TraceField}
use Rattle.cs_transact.specs.declared.refusal.TraceField.TheVariants as field

-- the key under which a field stands
abbrev pub field_word : TraceField → List ℕ
field_word field.Contract = codes "contract"
field_word field.Method = codes "method"
field_word field.Inputs = codes "inputs"
field_word field.References = codes "references"
field_word field.Outputs = codes "outputs"
field_word field.Parameters = codes "parameters"
field_word field.Returns = codes "returns"
field_word field.Deps = codes "deps"

-- a word, and bytes as hex
abbrev pub hex_line : List ℕ → List ℕ → List ℕ
hex_line word bytes = word ++ (codes " " ++ (encode_lower bytes ++ codes "\n"))

abbrev pub message_line : ℕ → List ℕ → List ℕ
message_line number message = codes "message " ++ (decimal number ++ (codes " " ++ (encode_lower message ++ codes "\n")))

abbrev pub output_line : ℕ → ℕ → List ℕ → List ℕ
output_line number place name =
    codes "output " ++ (decimal number ++ (codes " " ++ (decimal place ++ (codes " " ++ (encode_lower name ++ codes "\n")))))

-- a cause that names the field of a trace, or a trace
abbrev pub field_line : List ℕ → ℕ → TraceField → List ℕ
field_line cause number f = cause ++ (decimal number ++ (codes " " ++ (field_word f ++ codes "\n")))

abbrev pub trace_line : List ℕ → ℕ → List ℕ
trace_line cause number = cause ++ (decimal number ++ codes "\n")

abbrev pub refused_line : Refusal → List ℕ
refused_line Toml = codes "refused toml\n"
refused_line Traces = codes "refused field traces\n"
refused_line Many = codes "refused limit traces\n"
refused_line (Field number f) = field_line (codes "refused field ") number f
refused_line (Limit number f) = field_line (codes "refused limit ") number f
refused_line Large = codes "refused large\n"
refused_line NoInput = codes "refused input\n"
refused_line (Twice name) = hex_line (codes "refused twice") name
refused_line (Foreign number) = trace_line (codes "refused foreign ") number
refused_line (Dep number) = trace_line (codes "refused dep ") number
