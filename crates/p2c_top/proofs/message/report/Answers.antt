use Rattle.p2c_top.proofs.message.report.Goals as goal

pub returns-in-Usage-clause-part : goal.returns-in-Usage-clause-part
returns-in-Usage-clause-part g c = rw c.in-Usage.is c.offer.ensures.part

pub returns-in-Missing-clause-whole : goal.returns-in-Missing-clause-whole
returns-in-Missing-clause-whole g c = rw (c.in-Missing.is, ← c.as_bytes.ensures.value) c.offer_parts.ensures.whole

pub returns-in-Missing-clause-part : goal.returns-in-Missing-clause-part
returns-in-Missing-clause-part g c = rw (c.in-Missing.is, ← c.as_bytes.ensures.value) c.offer_parts.ensures.part

pub returns-in-ReadFault-clause-whole : goal.returns-in-ReadFault-clause-whole
returns-in-ReadFault-clause-whole g c = rw c.in-ReadFault.is c.offer-in-ReadFault.ensures.whole

pub returns-in-ReadFault-clause-part : goal.returns-in-ReadFault-clause-part
returns-in-ReadFault-clause-part g c = rw c.in-ReadFault.is c.offer-in-ReadFault.ensures.part

pub returns-in-OutOfMemory-clause-whole : goal.returns-in-OutOfMemory-clause-whole
returns-in-OutOfMemory-clause-whole g c = rw c.in-OutOfMemory.is c.offer-in-OutOfMemory.ensures.whole

pub returns-in-OutOfMemory-clause-part : goal.returns-in-OutOfMemory-clause-part
returns-in-OutOfMemory-clause-part g c = rw c.in-OutOfMemory.is c.offer-in-OutOfMemory.ensures.part
