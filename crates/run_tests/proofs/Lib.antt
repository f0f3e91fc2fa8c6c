mod OneNet
