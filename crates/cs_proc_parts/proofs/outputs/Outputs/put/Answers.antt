use Rattle.std.proofs.Common.{◌≡◌, ◌∙◌, rules, arith, List, map, sym, ap}
use Rattle.cs_proc_parts.specs.declared.outputs.Entry.{Entry}
use Rattle.cs_proc_parts.specs.Slots.{created_of}
use Rattle.cs_proc_parts.specs.Creating.{Created, with_made}
use Rattle.cs_proc_parts.proofs.Filling.{made_none, put_entry}
use Rattle.cs_proc_parts.proofs.outputs.Outputs.put.Goals as goal

pub returns-in_ok-push : goal.returns-in_ok-push
returns-in_ok-push c =
    let e : Entry = c.index_mut.result.now in
    let f : Entry = record { name = e.name; many = e.many; objects = c.push.new.self } in
    let v : c.args.self.now ≡ map created_of c.self.inside.entries.items = cc (c.self.view_is) in
    put_entry c.args.name.now c.args.object c.self.inside.entries.items c.place-place.result e f
    (cc (c.place-place.ensures, v)) (search rules) (search rules)
    ∙ ap (λ (cs : List Created). with_made c.args.name.now c.args.object cs) (sym v)

pub returns-else-place-len : goal.returns-else-place-len
returns-else-place-len c =
    made_none c.args.name.now c.args.object c.args.self.now c.self.inside.entries.items c.place-place.result
    (cc (c.self.view_is)) c.place-place.ensures (omega (arith, c.len.ensures, c.if-place-len.false))
