-- What is put into a file is found there.
use Rattle.std.proofs.Common.{◌≡◌, ◌∙◌, ap, sym, Some, get_or, string_bytes}
use Rattle.std.proofs.lemmas.List.Quantifiers.{position-Some}
use Rattle.std.proofs.lemmas.Slice.Eq.{bytes_eq-Decides}
use Rattle.std.specs.List.{position}
use Rattle.cs_io.specs.Files.{File, is_file_of}
use Rattle.cs_io.proofs.Filed.{replaced, others_kept, added, others_kept_before}
use Rattle.cs_io.proofs.files.put.Goals as goal

pub returns-in-Some-clause-ok : goal.returns-in-Some-clause-ok
returns-in-Some-clause-ok c =
    let files = c.args.files.now.items in
    let i = c.in-Some.place in
    let d = c.index_mut-file.result.now in
    let name = c.args.name.now in
    let content = c.in_ok-content.content in
    let found = position-Some (is_file_of name) files i d (ap (position (is_file_of name)) (sym c.deref.ensures.value) ∙ sym c.in-Some.ensures) in
    let is : d ≡ get_or files i d = c.index_mut-file.ensures.value in
    rw is (
      replaced files i d content name found.0 found.1 found.2 ∙ ap Some c.in_ok-content.ensures.items,
      λ other differs. others_kept files i d content name other found.0 found.1 differs,
    )

pub returns-in_ok-push-in-None-clause-ok : goal.returns-in_ok-push-in-None-clause-ok
returns-in_ok-push-in-None-clause-ok c =
    let files = c.args.files.now.items in
    let name = c.args.name.now in
    let file : File = (c.in_ok-from_str-in-None.field-0, c.in_ok-content.content) in
    let none = ap (position (is_file_of name)) (sym c.deref.ensures.value) ∙ sym c.in-None.ensures in
    let named = (bytes_eq-Decides (string_bytes file.0) name).1 c.in_ok-from_str-in-None.ensures.ok in
    rw c.in_ok-push-in-None.ensures.items (
      added files file name none named ∙ ap Some c.in_ok-content.ensures.items,
      λ other differs. others_kept_before files file name other named differs,
    )
