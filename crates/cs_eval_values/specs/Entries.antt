-- Names as they are kept.
use Rattle.cs_eval_values.specs.declared.names.Entry.{Entry}
use Rattle.cs_eval_values.specs.Namings.{Named}

abbrev pub named_of : Entry → Named
named_of e = record { name = e.name.now; kind = e.kind; datum = e.held }
