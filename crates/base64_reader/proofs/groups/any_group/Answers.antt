use Rattle.base64_reader.proofs.Laws.Groups.{group_one, group_two, group_three, group_four}
use Rattle.base64_reader.proofs.groups.any_group.Goals as goal

pub returns-in_default-next_letter : goal.returns-in_default-next_letter
returns-in_default-next_letter c = group_one c.next_letter.ensures c.in-Some.is c.next_letter-2.ensures
    c.in_default-next_letter.is

pub returns-in_default-next_letter-2 : goal.returns-in_default-next_letter-2
returns-in_default-next_letter-2 c = group_two c.next_letter.ensures c.in-Some.is c.next_letter-2.ensures
    c.in-Some-next_letter.is c.next_letter-3.ensures c.in_default-next_letter-2.is

pub returns-in_default-next_letter-3 : goal.returns-in_default-next_letter-3
returns-in_default-next_letter-3 c = group_three c.next_letter.ensures c.in-Some.is c.next_letter-2.ensures
    c.in-Some-next_letter.is c.next_letter-3.ensures c.in-Some-next_letter-2.is c.next_letter-4.ensures
    c.in_default-next_letter-3.is

pub returns : goal.returns
returns c = group_four c.next_letter.ensures c.in-Some.is c.next_letter-2.ensures
    c.in-Some-next_letter.is c.next_letter-3.ensures c.in-Some-next_letter-2.is c.next_letter-4.ensures
    c.in-Some-next_letter-3.is c.value_of.ensures c.value_of-2.ensures c.value_of-3.ensures c.value_of-4.ensures
    c.group_of.ensures
