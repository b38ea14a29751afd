-- Slots as they are kept.
use Rattle.cs_proc_parts.specs.declared.outputs.Entry.{Entry}
use Rattle.cs_proc_parts.specs.Creating.{Created}

abbrev pub created_of : Entry → Created
created_of e = record { name = e.name.now; many = e.many; objects = e.objects.items }
