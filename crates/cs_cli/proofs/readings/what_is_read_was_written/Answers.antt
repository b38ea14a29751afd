use Rattle.cs_tx_value.specs.laws.Object.{object_form}
use Rattle.cs_tx_types.specs.laws.Session.{action_form}
use Rattle.cs_tx_types.specs.laws.Entry.{entry_form}
use Rattle.cs_cli.proofs.readings.what_is_read_was_written.Goals as goal

pub returns-clause-actions : goal.returns-clause-actions
returns-clause-actions c = action_form

pub returns-clause-entries : goal.returns-clause-entries
returns-clause-entries c = entry_form

pub returns-clause-objects : goal.returns-clause-objects
returns-clause-objects c = object_form

pub returns-clause-datagrams : goal.returns-clause-datagrams
returns-clause-datagrams c = c.datagrams_open_as_they_are_sealed.ensures

pub returns-clause-contracts : goal.returns-clause-contracts
returns-clause-contracts c = c.contracts_are_read.ensures

pub returns-clause-addresses : goal.returns-clause-addresses
returns-clause-addresses c = c.addresses_are_read.ensures
