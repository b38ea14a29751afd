use Rattle.cs_base.proofs.HexTexts.{bytes_of-bytes_text}
use Rattle.cs_base.proofs.hex_text.printed_bytes_are_read.Goals as goal

pub returns : goal.returns
returns c = bytes_of-bytes_text
