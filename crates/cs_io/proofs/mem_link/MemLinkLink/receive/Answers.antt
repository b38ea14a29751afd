-- What stands in the buffer is the first input left.
use Rattle.std.proofs.Common.{◌≡◌, ◌+◌, ◌∙◌, ◌∷◌, ap, sym, arith, take, drop, map}
use Rattle.cs_io.specs.InMemory.{seen_input}
use Rattle.cs_io.specs.declared.link.MemInput.TheVariants.{Datagram}
use Rattle.cs_io.proofs.Arrivals.{left_first}
use Rattle.cs_io.proofs.mem_link.MemLinkLink.receive.Goals as goal

pub returns-in-Datagram-clause-input : goal.returns-in-Datagram-clause-input
returns-in-Datagram-clause-input c =
    let inputs = c.args.self.now.inputs.items in
    let place = c.args.self.now.taken in
    let input = c.in-Some.input.now in
    let found = rw c.deref.ensures.value at c.in-Some.ensures.lookup in
    let first = left_first seen_input inputs place input found.3.0 found.1 in
    let given : take c.fill.result c.fill.new.buf ≡ take 32769 c.in-Datagram.bytes =
    c.fill.ensures.filled ∙ ap (λ n. take n c.as_slice.result.now) c.requires ∙ ap (take 32769) c.as_slice.ensures in (
      omega arith,
      first ∙ ap (λ i. seen_input i ∷ map seen_input (drop (place + 1) inputs)) c.in-Datagram.is
          ∙ ap (λ bytes. Datagram bytes ∷ map seen_input (drop (place + 1) inputs)) (sym given),
    )
