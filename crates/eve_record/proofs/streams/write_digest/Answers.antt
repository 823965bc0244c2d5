use Rattle.eve_record.proofs.streams.write_digest.Goals as goal

pub returns : goal.returns
returns c = rw (c.ascii_text.ensures, c.digest_text.ensures.value) at c.text.ensures
